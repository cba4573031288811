-- How far a text is that of a set.
use Rattle.std.specs.Prelude.{◌≡◌, ◌==◌, ◌<◌, ◌≤◌, ℕ, List, [], ◌∷◌, ◌++◌, take, codes, refl}
use Rattle.std.specs.Int.{bit_at}
use Rattle.std.proofs.Common.{ap, arith, lit≤, subst, sym, ◌∙◌, true≢false}
use Rattle.capbits.specs.declared.cap.Cap.TheVariants.{Ax, Fa, Fb, Fc, Fl, Fr, Fs, Fw, Fx, P}
use Rattle.capbits.specs.declared.cap.Part.TheVariants.{A, F, L, X}
use Rattle.capbits.specs.Caps.{Caps, bits_of}
use Rattle.capbits.specs.SetNumbers.{IsCaps-bits_of}
use Rattle.capbits.specs.Sets.{IsSubset, and_parts, caps_in, caps_of_part, has-meet, meet, no_caps}
use Rattle.cap_text.specs.Beginnings.{BeginsText, IsLongestBeginning}
use Rattle.capbits.specs.Text.{text_of}
use Rattle.capbits.proofs.Following.{apart_caps, apart_parts, apart_parts_behind, behind_capital, behind_letter, first_rest, letters_of, letters_of_text}
use Rattle.capbits.proofs.Following.{no_letter, rest_of}
use Rattle.tests_core.proofs.Unfolded.{sets}
use Rattle.tests_core.specs.CapTexts.{mine, other}

-- behind the letter c of the file's caps comes no s
out_of_order : (s : Caps) (w : List ℕ) → text_of s ≡ codes "pFcs" ++ w → ⊥
out_of_order s w e =
    let all : letters_of s ≡ 112 ∷ (codes "Fcs" ++ w) = letters_of_text s 112 _ (λ same. true≢false (ap (λ b. b == 112) same)) e in
    let behind_pin : rest_of s [] (A ∷ L ∷ X ∷ F ∷ []) ≡ codes "Fcs" ++ w = behind_letter s [] P [] _ _ apart_caps all in
    let behind_f : rest_of s (caps_of_part F) [] ≡ codes "cs" ++ w = (behind_capital s (A ∷ L ∷ X ∷ []) F [] _ apart_parts (no_letter s [] (A ∷ L ∷ X ∷ F ∷ []) 70 _ refl behind_pin).1).0 in
    let behind_c : rest_of s (Fr ∷ Fw ∷ Fb ∷ Fa ∷ Fl ∷ []) [] ≡ codes "s" ++ w = behind_letter s (Fs ∷ Fx ∷ []) Fc (Fr ∷ Fw ∷ Fb ∷ Fa ∷ Fl ∷ []) [] _ (apart_parts_behind (A ∷ L ∷ X ∷ []) F [] apart_parts).1 behind_f in
    true≢false (sym (first_rest s (Fr ∷ Fw ∷ Fb ∷ Fa ∷ Fl ∷ []) [] 115 w behind_c))

no_longer : (n : ℕ) → 3 < n → n ≤ 4 → BeginsText (take n (codes "pFcs")) → ⊥
no_longer n lt le b =
    let all : n ≡ 4 = omega (arith, lt, le) in
    out_of_order b.0 b.1.0 (subst (λ k. text_of b.0 ≡ take k (codes "pFcs") ++ b.1.0) all b.1.1)

pub another_order : IsLongestBeginning (codes "pFcs") 3
unfolding sets
another_order = record { within = lit≤ tt; begins = (caps_in (P ∷ Fc ∷ []), ([], refl)); longest = no_longer }

pub capital_alone : IsLongestBeginning (codes "pF") 2
unfolding sets
capital_alone = record { within = lit≤ tt; begins = (caps_in (P ∷ Fs ∷ []), (codes "s", refl)); longest = λ n lt le _. absurd (omega (arith, lt, le)) }

pub nothing : IsLongestBeginning [] 0
nothing = record { within = lit≤ tt; begins = (no_caps, (text_of no_caps, refl)); longest = λ n lt le _. absurd (omega (arith, lt, le)) }

-- no set has a number with the second bit
pub has_second_bit : (s : Caps) (n : ℕ) → bit_at n 1 ≡ 1 → bits_of s ≡ n → ⊥
has_second_bit s n one e =
    let none : bit_at n 1 ≡ 0 = subst (λ m. bit_at m 1 ≡ 0) e (IsCaps-bits_of s).no_bit_1 in
    omega (arith, one, none)

pub contained : IsSubset (meet mine other) mine
contained c t = (and_parts _ _ (sym (has-meet mine other c) ∙ t)).0

pub not_contained : IsSubset other mine → ⊥
unfolding sets
not_contained each = true≢false (sym (each Ax refl))
