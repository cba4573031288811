use Rattle.std.proofs.Common.{ℕ, List, [], ◌∷◌, ◌++◌, refl, sym, ap, inl, inr, ◌∙◌}
use Rattle.std.proofs.lemmas.List.{append-nil}
use Rattle.capbits.specs.Caps.{Caps}
use Rattle.cluster_audit.specs.declared.conflict.Holding.{Holding}
use Rattle.cluster_audit.specs.Audited.{Holds}
use Rattle.cluster_audit.proofs.Giving.{all_given, one_given}
use Rattle.cluster_audit.proofs.pairs.holdings_of.Goals as goal
use Rattle.cluster_audit.proofs.pairs.holdings_of.Goals.{in-Ok+in_ok-push, in_default}

pub loop-holder-preserved : goal.loop-holder-preserved
loop-holder-preserved c =
    let h = c.holder-item.result in
    let before = c.loop-holder.holdings.items in
    let known : ℕ → Caps → List Holding = λ n caps. record { client = n; caps = caps } ∷ [] in
    elim c.match-read_caps.branch [
      | in-Ok+in_ok-push w ↦
          one_given Holds c.args.holders.now c.loop-holder.holder-index h before c.match-read_caps.holdings.items (known h.client w.in-Ok.caps) c.loop-holder-test.true c.holder-item.is c.loop-holder.invariant
          (ap (λ v. v.items) w.holdings-is ∙ w.in_ok-push.ensures.items ∙ ap (λ (n : ℕ). before ++ known n w.in-Ok.caps) w.client.ensures)
          (inl (w.in-Ok.caps, sym c.issued-issued.ensures ∙ w.in-Ok.ensures.ok, refl))
      | in_default w ↦
          one_given Holds c.args.holders.now c.loop-holder.holder-index h before c.match-read_caps.holdings.items [] c.loop-holder-test.true c.holder-item.is c.loop-holder.invariant
          (ap (λ v. v.items) w.holdings-is ∙ sym (append-nil before))
          (inr ((λ caps is. w.in_default.not-Ok caps (c.read_caps.ensures.each_text caps (c.issued-issued.ensures ∙ is))), refl))
    ]

pub returns : goal.returns
returns c = all_given Holds c.args.holders.now c.loop-holder.holder-index c.loop-holder.holdings.items c.loop-holder-test.false c.loop-holder.invariant
