use Rattle.std.proofs.Common.{◌≡◌, List, ℕ, ◌++◌, ap, ◌∙◌}
use Rattle.queries.specs.Reported.{State, behind_other, keeping, state_of}
use Rattle.queries.proofs.log_text.LogState.keep.Goals as goal

pub returns : goal.returns
returns c =
    let line = c.args.line.now in
    let items : c.extend_from_slice.new.self.items ≡ line = c.in_ok-extend_from_slice.ensures.items ∙ ap (λ (t : List ℕ). t ++ line) c.clear.ensures.items in
    ap (λ (s : State). keeping s c.extend_from_slice.new.self.items) c.pass_over.ensures ∙ ap (λ (t : List ℕ). keeping (behind_other (state_of c.args.self.now) line) t) items
