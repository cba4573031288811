use Rattle.std.proofs.Common.{◌≡◌, ℕ, List, ◌++◌, Bor, Option, None, Some, map, refl, ap, subst, ◌∙◌}
use Rattle.std.proofs.lemmas.Result.{on_ok_weaker}
use Rattle.std.specs.FinMap as paths
use Rattle.std.specs.List.{flat_map}
use Rattle.cluster_audit.specs.declared.conflict.Conflict.{Conflict}
use Rattle.cluster_audit.specs.declared.conflict.Holding.{Holding}
use Rattle.cluster_audit.specs.Conflicts.{conflicts_of}
use Rattle.ceph_input.specs.Dump.{Held, Listed, PathMap}
use Rattle.cluster_audit.specs.Known.{Known}
use Rattle.cluster_audit.specs.declared.notes.Manner.{Manner}
use Rattle.cluster_audit.specs.Audited.{AddsTo, Give, Holds, SaysOfPairs, conflict_at}
use Rattle.cluster_audit.proofs.pairs.print_pairs.Goals as goal

abbrev names_of : List (Bor (List ℕ)) → List (List ℕ)
names_of names = map (λ name. name.now) names

-- the lines for the conflicts among holdings are those of the inode
module _ (m : Manner) (sessions : List Known) (known : PathMap) (it : Listed) where
  pub of_inode : (number : ℕ) (path : Option (List (List ℕ))) (holders : List Held) (holdings : List Holding) (found : List Conflict) (old new : List ℕ) → number ≡ it.number → holders ≡ it.holders → Give Holds holders holdings
      → path ≡ paths.get known number → found ≡ conflicts_of holdings → new ≡ old ++ flat_map (conflict_at m sessions number path) found → AddsTo (SaysOfPairs m sessions known it) old new
  of_inode number path holders holdings found old new is_number are_holders given leads are more = (
    flat_map (conflict_at m sessions it.number (paths.get known it.number)) (conflicts_of holdings),
    more
        ∙ ap (λ (cs : List Conflict). old ++ flat_map (conflict_at m sessions number path) cs) are
        ∙ ap (λ (p : Option (List (List ℕ))). old ++ flat_map (conflict_at m sessions number p) (conflicts_of holdings)) leads
        ∙ ap (λ (n : ℕ). old ++ flat_map (conflict_at m sessions n (paths.get known n)) (conflicts_of holdings)) is_number,
    (holdings, subst (λ (hs : List Held). Give Holds hs holdings) are_holders given, refl),
  )

pub returns-in_default : goal.returns-in_default
returns-in_default c =
    on_ok_weaker c.print_conflicts.result
    (of_inode c.args.manner c.args.clients.now.sessions c.args.paths.now c.args.inode.now c.number-number.result None c.holders.result.now c.in_ok-holdings.holdings.items _ c.args.text.now.items _
    c.number-number.ensures c.holders.ensures c.in_ok-holdings.ensures c.in_default.ensures (c.as_slice-in_default.ensures.value ∙ c.in_ok-found.ensures ∙ ap conflicts_of c.as_slice.ensures.value))
    c.print_conflicts.ensures

pub returns : goal.returns
returns c =
    on_ok_weaker c.print_conflicts-2.result
    (of_inode c.args.manner c.args.clients.now.sessions c.args.paths.now c.args.inode.now c.number-number.result _ c.holders.result.now c.in_ok-holdings.holdings.items _ c.args.text.now.items _
    c.number-number.ensures c.holders.ensures c.in_ok-holdings.ensures (ap (λ (ns : List (Bor (List ℕ))). Some (names_of ns)) c.as_slice-2.ensures.value ∙ ap Some c.in_ok-names.ensures ∙ c.in-Some.ensures) (c.as_slice-3.ensures.value ∙ c.in_ok-found.ensures ∙ ap conflicts_of c.as_slice.ensures.value))
    c.print_conflicts-2.ensures
