use Rattle.std.proofs.Common.{[], sym, ◌∙◌, true≢false}
use Rattle.capspec.proofs.Sharing.{no_more, one_more}
use Rattle.capspec.proofs.shared_prefix.go_on.Goals as goal

pub returns-then-not-has_name : goal.returns-then-not-has_name
returns-then-not-has_name c =
    no_more c.args.names.now c.args.text.now c.loop-at.at (record { ref_ptr = (0, 0); now = [] }) c.loop-at.invariant c.loop-at-test.true (λ here. true≢false (sym (c.has_name.ensures.1 here) ∙ c.if-not-has_name.true))

pub loop-at-preserved : goal.loop-at-preserved
loop-at-preserved c =
    one_more c.args.names.now c.args.text.now c.loop-at.at (record { ref_ptr = (0, 0); now = [] }) c.loop-at.invariant c.loop-at-test.true (c.has_name.ensures.0 c.if-not-has_name.false)
