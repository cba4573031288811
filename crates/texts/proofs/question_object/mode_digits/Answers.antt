use Rattle.std.proofs.Common.{◌≡◌, ◌++◌, ◌/◌, ◌%◌, ℕ, List, sym, ap, ◌∙◌, append_assoc}
use Rattle.std.specs.Fmt.{decimal}
use Rattle.std.proofs.lemmas.Result.{IfOk-weaker}
use Rattle.texts.specs.PartTexts.{mode_text}
use Rattle.texts.proofs.question_object.mode_digits.Goals as goal

one_after_another : (a b c d : List ℕ) → a ++ (b ++ (c ++ d)) ≡ a ++ b ++ c ++ d
one_after_another a b c d = sym (append_assoc (a ++ b) c d ∙ append_assoc a b (c ++ d))

pub returns : goal.returns
returns c =
    let bits = c.bits-bits.result in
    let digits = one_after_another (decimal (bits / 512)) (decimal (bits / 64 % 8)) (decimal (bits / 8 % 8)) (decimal (bits % 8)) in
    IfOk-weaker c.format.result _ _ (λ text is. is ∙ digits ∙ ap mode_text c.bits-bits.ensures.value) c.format.ensures.ok
