use Rattle.std.proofs.Common.{◌≡◌, List, ℕ, ◌++◌, length, ap, subst, sym, ◌∙◌, arith, length-append}
use Rattle.queries.specs.Counts.{counts_of}
use Rattle.queries.specs.Reported.{State, scope_of, state_of, text_of}
use Rattle.queries.specs.LogPieces.{TellsLines, counted_after, told_now}
use Rattle.queries.proofs.CountedLog.{both_ok}
use Rattle.queries.proofs.log_text.LogTeller.take.Goals as goal

pub print_lines-requires-clause-room : goal.print_lines-requires-clause-room
print_lines-requires-clause-room c =
    let text : c.as_slice-text.result.now ≡ c.args.self.now.unfinished.items ++ c.args.piece.now = c.as_slice-text.ensures.value ∙ c.in_ok-extend_from_slice.ensures.items in
    omega (arith, c.requires.room, ap (λ (t : List ℕ). length t) text, length-append c.args.self.now.unfinished.items c.args.piece.now)

pub returns : goal.returns
returns c =
    let says = c.in_ok-rest.ensures in
    let scope = scope_of c.args.scope in
    let old = state_of c.args.self.now.state in
    let start : List ℕ = c.args.reported.now.items in
    let taken : List ℕ = c.args.self.now.unfinished.items ++ c.args.piece.now in
    let left : List ℕ = c.hand_on.new.self.unfinished.items in
    let text : c.as_slice-text.result.now ≡ taken = c.as_slice-text.ensures.value ∙ c.in_ok-extend_from_slice.ensures.items in
    let told : c.as_slice.result.now ≡ text_of scope says.0 = c.as_slice.ensures.value ∙ says.1 ∙ ap (λ (t : List ℕ). t ++ text_of scope says.0) c.new-told.ensures.items in
    let rest : c.in_ok-rest.rest.now ≡ left = sym c.in_ok-unfinished.ensures.items ∙ sym c.hand_on.ensures.unfinished in
    let lines : TellsLines scope old taken left says.0 (state_of c.hand_on.new.self.state) =
    subst (λ (next : State). TellsLines scope old taken left says.0 next) (sym c.hand_on.ensures.state)
    (subst (λ (t : List ℕ). TellsLines scope old t left says.0 (state_of c.print_lines.new.state)) text
    (subst (λ (r : List ℕ). TellsLines scope old c.as_slice-text.result.now r says.0 (state_of c.print_lines.new.state)) rest says.2)) in
    both_ok c.hand_on.result
    (λ new counted. (says.0, new ∙ ap (λ (t : List ℕ). start ++ told_now scope t) told, (lines, counted ∙ ap (counted_after scope (counts_of c.args.self.now.counts)) told))) c.hand_on.ensures.told c.hand_on.ensures.counted
