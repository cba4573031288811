use Rattle.std.proofs.Common.{◌≡◌, ℕ, List, ◌++◌, subst, sym, ap, ◌∙◌, append_assoc}
use Rattle.std.specs.Prelude.{OnOk, codes}
use Rattle.std.specs.Fmt.{decimal}
use Rattle.queries.specs.declared.told.Told.{Told}
use Rattle.queries.specs.AnyPath.{any_path_text}
use Rattle.queries.specs.Told.{behind, lines_of, told_of}
use Rattle.queries.proofs.told.print_lines.Goals as goal

in_a_row : (start a b c : List ℕ) → (start ++ (a ++ b)) ++ c ≡ start ++ (a ++ (b ++ c))
in_a_row start a b c = simp append_assoc

pub returns-in_ok-lines-in-Answered : goal.returns-in_ok-lines-in-Answered
returns-in_ok-lines-in-Answered c =
    let start = c.args.reported.now.items in
    let new = c.print_behind.new.reported.items in
    subst (λ (t : Told). OnOk c.print_behind.result (new ≡ start ++ lines_of c.args.number (told_of t))) (sym c.in-Answered.is)
    (subst (λ (lines : List ℕ). OnOk c.print_behind.result (new ≡ start ++ behind c.args.number lines)) (c.as_slice.ensures.value ∙ c.in_ok-lines-in-Answered.ensures) c.print_behind.ensures)

pub returns-in_ok-print-in-Pathless : goal.returns-in_ok-print-in-Pathless
returns-in_ok-print-in-Pathless c =
    let start = c.args.reported.now.items in
    let new = c.print_any_path.new.text.items in
    let said = any_path_text c.in-Pathless.access c.in-Pathless.any in
    subst (λ (t : Told). OnOk c.print_any_path.result (new ≡ start ++ lines_of c.args.number (told_of t))) (sym c.in-Pathless.is)
    (subst (λ (text : List ℕ). OnOk c.print_any_path.result (new ≡ text))
    (ap (λ (text : List ℕ). text ++ said) c.in_ok-print-in-Pathless.ensures ∙ in_a_row start (decimal c.args.number) (codes ": no path in this line: ") said) c.print_any_path.ensures)

pub returns-in-Formless : goal.returns-in-Formless
returns-in-Formless c =
    subst (λ (t : Told). OnOk c.print-in-Formless.result (c.print-in-Formless.new.text.items ≡ c.args.reported.now.items ++ lines_of c.args.number (told_of t))) (sym c.in-Formless.is) c.print-in-Formless.ensures

pub returns-in-Bad : goal.returns-in-Bad
returns-in-Bad c =
    subst (λ (t : Told). OnOk c.print-in-Bad.result (c.print-in-Bad.new.text.items ≡ c.args.reported.now.items ++ lines_of c.args.number (told_of t))) (sym c.in-Bad.is) c.print-in-Bad.ensures
