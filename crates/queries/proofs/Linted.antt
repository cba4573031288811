-- The text that tells what is found tells one list of things.
use Rattle.std.proofs.Common.{◌≡◌, ℕ, Option, None, List, [], ◌∷◌, ◌++◌, refl, sym, ap, ◌∙◌, arith}
use Rattle.std.specs.Prelude.{All, if◌then◌else◌}
use Rattle.std.specs.List.{AllZip, flat_map}
use Rattle.std.proofs.lemmas.List.Concat.{flat_map-append}
use Rattle.policy_analysis.specs.declared.unread.Unread.{Unread}
use Rattle.policy_analysis.specs.declared.finding.Finding.{Finding}
use Rattle.texts.specs.Found.{Found, SameOfGrant, all_found, thing_line}
use Rattle.texts.proofs.Linted.{all_lines, begins, one_list}
use Rattle.texts.proofs.Quoted.{clash, first_byte}
use Rattle.texts.specs.declared.shape.Shape.{Shape}
use Rattle.texts.specs.declared.shape.Shape.TheVariants.{Lines, Objects}
use Rattle.texts.specs.Shapes.{nothing_in}
use Rattle.texts.proofs.JsonLinted.{each_has_one}
use Rattle.texts.proofs.JsonLinted.{one_list as one_list_of_objects}
use Rattle.queries.specs.Linting.{HasText, found_in, found_in_all, lint_in, thing_in, things_in}

of_one : (shape : Shape) (f : Finding) (why : Option Unread) → found_in shape f why ≡ flat_map (thing_in shape) (all_found f why)
of_one Lines f why = sym (all_lines f why)
of_one Objects f why = each_has_one f why

of_all : (shape : Shape) (fs : List Finding) (us : List (Option Unread)) → lint_in shape fs us ≡ flat_map (thing_in shape) (found_in_all fs us)
of_all shape [] us = refl
of_all shape (f ∷ fs) [] = refl
of_all shape (f ∷ fs) (u ∷ us) =
    let why : Option Unread = if f.has_ceph_text then u else None in
    ap (λ (r : List ℕ). r ++ lint_in shape fs us) (of_one shape f why) ∙ ap (λ (r : List ℕ). flat_map (thing_in shape) (all_found f why) ++ r) (of_all shape fs us)
    ∙ sym (flat_map-append (thing_in shape) (all_found f why) (found_in_all fs us))

of_texts : (shape : Shape) (xs ys : List (ℕ × Found)) → All (HasText shape) xs → All (HasText shape) ys → flat_map (thing_in shape) xs ≡ flat_map (thing_in shape) ys → AllZip SameOfGrant xs ys
of_texts Lines xs ys p q same = one_list xs ys p q same
of_texts Objects xs ys p q same = one_list_of_objects xs ys p q same

with_more : (shape : Shape) (fs : List Finding) (us : List (Option Unread)) (xs : List (ℕ × Found)) → lint_in shape fs us ++ things_in shape xs ≡ things_in shape (found_in_all fs us ++ xs)
with_more shape fs us xs = ap (λ (r : List ℕ). r ++ things_in shape xs) (of_all shape fs us) ∙ sym (flat_map-append (thing_in shape) (found_in_all fs us) xs)

pub one_lint : (shape : Shape) (fs gs : List Finding) (us ws : List (Option Unread)) (xs ys : List (ℕ × Found)) → All (HasText shape) (found_in_all fs us ++ xs) → All (HasText shape) (found_in_all gs ws ++ ys)
    → lint_in shape fs us ++ things_in shape xs ≡ lint_in shape gs ws ++ things_in shape ys → AllZip SameOfGrant (found_in_all fs us ++ xs) (found_in_all gs ws ++ ys)
one_lint shape fs gs us ws xs ys p q same = of_texts shape (found_in_all fs us ++ xs) (found_in_all gs ws ++ ys) p q (sym (with_more shape fs us xs) ∙ same ∙ with_more shape gs ws ys)

something : (xs : List (ℕ × Found)) → flat_map thing_line xs ≡ nothing_in Lines → ⊥
something [] same = clash 0 110 (omega arith) (ap first_byte same)
something (x ∷ xs) same = clash 103 110 (omega arith) (sym (begins x (flat_map thing_line xs)) ∙ ap first_byte same)

pub says_something : (fs : List Finding) (us : List (Option Unread)) (xs : List (ℕ × Found)) → lint_in Lines fs us ++ things_in Lines xs ≡ nothing_in Lines → ⊥
says_something fs us xs same = something (found_in_all fs us ++ xs) (sym (with_more Lines fs us xs) ∙ same)
