use Rattle.std.proofs.Common.{◌≡◌, ◌≤◌, length, ap, ◌∙◌, arith}
use Rattle.std.specs.Prelude.{◌++◌}
use Rattle.capspec.specs.Words.{next}
use Rattle.policy_analysis.specs.Scanning.{behind_word}
use Rattle.policy_analysis.proofs.Words.{next_shorter, word_shorter}
use Rattle.policy_analysis.proofs.Grants.{items_of}
use Rattle.policy_analysis.proofs.items.scan_grant.Goals as goal

items_at : (c : goal.After-scan_items) → c.behind_word-2.result.now ≡ behind_word (next (behind_word (next c.args.text.now)))
items_at c = c.behind_word-2.ensures ∙ ap behind_word c.skip_white-flags.ensures ∙ ap (λ t. behind_word (next t)) (c.behind_word.ensures ∙ ap behind_word c.skip_white.ensures)

pub returns-clause-reported : goal.returns-clause-reported
returns-clause-reported c s end begins = c.scan_items.ensures.reported s.items (s.after ++ end) (rw (items_at c) (items_of c.args.text.now s end begins))

pub returns-clause-within : goal.returns-clause-within
returns-clause-within c =
    let text = c.args.text.now in
    let all : length (behind_word (next (behind_word (next text)))) ≤ length text =
    omega (arith, word_shorter (next (behind_word (next text))), next_shorter (behind_word (next text)), word_shorter (next text), next_shorter text) in
    omega (arith, c.scan_items.ensures.within, ap length (items_at c), all)
