-- The one spelling of a set of caps, as ASCII bytes.
use Rattle.std.specs.Prelude.{ℕ, List, [], ◌∷◌, ◌++◌, map, filter, codes}
use Rattle.capbits.specs.declared.cap.Cap.{Cap}
use Rattle.capbits.specs.declared.cap.Cap.TheVariants.{As, Ax, Fa, Fb, Fc, Fl, Fr, Fs, Fw, Fx, Ls, Lx, P, Xs, Xx}
use Rattle.capbits.specs.declared.cap.Part.{Part}
use Rattle.capbits.specs.declared.cap.Part.TheVariants.{A, F, L, X}
use Rattle.capbits.specs.Caps.{Caps, has}
use Rattle.capbits.specs.Sets.{caps_of_part}

-- the capital of a part: `A`, `L`, `X`, `F`
abbrev pub capital_of : Part → ℕ
capital_of A = 65
capital_of L = 76
capital_of X = 88
capital_of F = 70

-- the letter of a cap: `p`, and behind a capital `s`, `x`, `c`, `r`, `w`, `b`, `a`, `l`
abbrev pub letter_of : Cap → ℕ
letter_of P = 112
letter_of As = 115
letter_of Ls = 115
letter_of Xs = 115
letter_of Fs = 115
letter_of Ax = 120
letter_of Lx = 120
letter_of Xx = 120
letter_of Fx = 120
letter_of Fc = 99
letter_of Fr = 114
letter_of Fw = 119
letter_of Fb = 98
letter_of Fa = 97
letter_of Fl = 108

-- letters behind their capital; without letters no capital
abbrev pub headed : ℕ → List ℕ → List ℕ
headed capital [] = []
headed capital (x ∷ xs) = capital ∷ x ∷ xs

-- a dash stands for no letters at all
abbrev pub or_dash : List ℕ → List ℕ
or_dash [] = codes "-"
or_dash (x ∷ xs) = x ∷ xs

-- the letters of those of some caps that are in a set
unfoldable pub letters_in : Caps → List Cap → List ℕ
letters_in s caps = map letter_of (filter (has s) caps)

-- a part's capital and its letters
unfoldable pub group_of : Caps → Part → List ℕ
group_of s part = headed (capital_of part) (letters_in s (caps_of_part part))

-- the groups of some parts
unfoldable pub groups_in : Caps → List Part → List ℕ
groups_in s [] = []
groups_in s (part ∷ parts) = group_of s part ++ groups_in s parts

-- the spelling: the pin, then the parts in this order
unfoldable pub text_of : Caps → List ℕ
text_of s = or_dash (letters_in s (P ∷ []) ++ groups_in s (A ∷ L ∷ X ∷ F ∷ []))
