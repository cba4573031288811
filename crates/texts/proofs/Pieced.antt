-- Pieces of texts that are appended one each turn.
use Rattle.std.proofs.Common.{◌≡◌, ℕ, ◌+◌, ◌<◌, ◌≤◌, List, [], ◌∷◌, ◌++◌, length, drop, get_or, refl, sym, ap, ◌∙◌, append_assoc}
use Rattle.std.proofs.lemmas.List.{append-nil, drop_all, drop_more}
use Rattle.texts.specs.declared.line_text.Text.{Text}
use Rattle.texts.specs.LineTexts.{all_texts, text_value}

pub first_and_more : (piece : Text) (more : List Text) → text_value piece ++ all_texts more ≡ all_texts (piece ∷ more)
first_and_more piece [] = append-nil (text_value piece)
first_and_more piece (next ∷ more) = refl

pub one_piece : (pieces : List Text) (i : ℕ) (d : Text) (before after whole : List ℕ) → i < length pieces → after ≡ before ++ text_value (get_or pieces i d) → before ++ all_texts (drop i pieces) ≡ whole
    → after ++ all_texts (drop (i + 1) pieces) ≡ whole
one_piece pieces i d before after whole inside now held =
    let piece : Text = get_or pieces i d in
    let more : List Text = drop (i + 1) pieces in
    ap (λ (text : List ℕ). text ++ all_texts more) now ∙ append_assoc before (text_value piece) (all_texts more) ∙ ap (λ (text : List ℕ). before ++ text) (first_and_more piece more)
    ∙ ap (λ (left : List Text). before ++ all_texts left) (sym (drop_more pieces i d inside)) ∙ held

pub no_piece : (pieces : List Text) (i : ℕ) (before whole : List ℕ) → length pieces ≤ i → before ++ all_texts (drop i pieces) ≡ whole → before ≡ whole
no_piece pieces i before whole end held = sym (append-nil before) ∙ ap (λ (left : List Text). before ++ all_texts left) (sym (drop_all i pieces end)) ∙ held
