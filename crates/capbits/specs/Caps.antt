-- A set out of the fifteen caps, and the number that stands for it.
use Rattle.std.specs.Prelude.{◌≡◌, ℕ, ◌<◌, ◌^◌, ◌==◌, Bool, List, [], ◌∷◌, sum_by, if◌then◌else◌}
use Rattle.std.specs.Int.{bit_at}
use Rattle.capbits.specs.declared.cap.Cap.{Cap}
use Rattle.capbits.specs.declared.cap.Cap.TheVariants.{As, Ax, Fa, Fb, Fc, Fl, Fr, Fs, Fw, Fx, Ls, Lx, P, Xs, Xx}

-- for each cap, whether it is in the set
pub record Caps : Type 0 where
  pub p : Bool
  pub auth_s : Bool
  pub auth_x : Bool
  pub link_s : Bool
  pub link_x : Bool
  pub xattr_s : Bool
  pub xattr_x : Bool
  pub file_s : Bool
  pub file_x : Bool
  pub file_c : Bool
  pub file_r : Bool
  pub file_w : Bool
  pub file_b : Bool
  pub file_a : Bool
  pub file_l : Bool

-- whether a cap is in a set
unfoldable pub has : Caps → Cap → Bool
has s P = s.p
has s As = s.auth_s
has s Ax = s.auth_x
has s Ls = s.link_s
has s Lx = s.link_x
has s Xs = s.xattr_s
has s Xx = s.xattr_x
has s Fs = s.file_s
has s Fx = s.file_x
has s Fc = s.file_c
has s Fr = s.file_r
has s Fw = s.file_w
has s Fb = s.file_b
has s Fa = s.file_a
has s Fl = s.file_l

-- the set of the caps that pass a test
unfoldable pub caps_where : (Cap → Bool) → Caps
caps_where f = record {
  p = f P;
  auth_s = f As;
  auth_x = f Ax;
  link_s = f Ls;
  link_x = f Lx;
  xattr_s = f Xs;
  xattr_x = f Xx;
  file_s = f Fs;
  file_x = f Fx;
  file_c = f Fc;
  file_r = f Fr;
  file_w = f Fw;
  file_b = f Fb;
  file_a = f Fa;
  file_l = f Fl;
}

-- every cap
abbrev pub all_caps : List Cap
all_caps = P ∷ As ∷ Ax ∷ Ls ∷ Lx ∷ Xs ∷ Xx ∷ Fs ∷ Fx ∷ Fc ∷ Fr ∷ Fw ∷ Fb ∷ Fa ∷ Fl ∷ []

-- the place of a cap's bit; the second bit is unused
abbrev pub place_of : Cap → ℕ
place_of P = 0
place_of As = 2
place_of Ax = 3
place_of Ls = 4
place_of Lx = 5
place_of Xs = 6
place_of Xx = 7
place_of Fs = 8
place_of Fx = 9
place_of Fc = 10
place_of Fr = 11
place_of Fw = 12
place_of Fb = 13
place_of Fa = 14
place_of Fl = 15

-- the value of a cap's bit
abbrev pub value_of : Cap → ℕ
value_of c = 2 ^ place_of c

-- the number of a set: the sum of its caps' values
unfoldable pub bits_of : Caps → ℕ
bits_of s = sum_by (λ c. if has s c then value_of c else 0) all_caps

-- the caps whose bits a number has
unfoldable pub caps_of : ℕ → Caps
caps_of n = caps_where (λ c. bit_at n (place_of c) == 1)

-- a number with none but the bits of caps: it has no second bit
pub record IsCaps (n : ℕ) : Type 0 where
  pub sixteen_bits : n < 2 ^ 16
  pub no_bit_1 : bit_at n 1 ≡ 0
