use Rattle.std.proofs.Common.{◌≡◌, ℕ, List, codes, ◌++◌, append_assoc, ap, ◌∙◌}
use Rattle.std.proofs.lemmas.Result.{on_ok_weaker}
use Rattle.capbits.specs.Caps.{Caps}
use Rattle.capbits.specs.Sets.{minus}
use Rattle.capbits.specs.Text.{text_of}
use Rattle.cluster_audit.specs.Lines.{revoked_text, why_text}
use Rattle.cluster_audit.proofs.Noting.{behind}
use Rattle.cluster_audit.proofs.lines.print_beyond.Goals as goal

caps_behind : (issued caps end : List ℕ) → (codes " holds " ++ (issued ++ (codes ", may not " ++ caps))) ++ end ≡ codes " holds " ++ (issued ++ (codes ", may not " ++ (caps ++ end)))
caps_behind issued caps end = simp append_assoc

pub returns : goal.returns
returns c =
    let start = c.args.text.now.items in
    let last = c.print_why.new.text.items in
    let found = c.args.found.now in
    let issued : List ℕ = text_of c.args.issued in
    let caps : List ℕ = text_of found.caps in
    let revoked : List ℕ = revoked_text (minus found.caps c.args.pending) in
    let why : List ℕ = why_text found.missing found.denial in
    let end : List ℕ = revoked ++ (codes ": " ++ why) in
    on_ok_weaker c.print_why.result
    (λ more. behind start c.print_texts.new.text.items last (codes " holds " ++ (issued ++ (codes ", may not " ++ caps))) end c.in_ok-print_texts.ensures
    (behind c.print_texts.new.text.items c.print_revoked.new.text.items last revoked (codes ": " ++ why) (c.in_ok-print_revoked.ensures ∙ ap (λ (s : Caps). c.print_texts.new.text.items ++ revoked_text s) c.minus.ensures)
    (behind c.print_revoked.new.text.items c.print_str.new.text.items last (codes ": ") why c.in_ok-print_str.ensures more))
    ∙ ap (λ (t : List ℕ). start ++ t) (caps_behind issued caps end))
    c.print_why.ensures
