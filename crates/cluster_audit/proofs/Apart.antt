-- A conflict is listed exactly where two holdings are not apart.
use Rattle.std.proofs.Common.{◌≡◌, Bool, true, false, ◌&&◌, None, get_or, refl, sym, ap, ◌∙◌}
use Rattle.std.specs.Prelude.{◌≢◌, ◌↔◌, IsTrue}
use Rattle.std.specs.List.{list_any}
use Rattle.std.proofs.Math.Bool.{or_comm}
use Rattle.std.proofs.lemmas.Bool.{ne_eqb}
use Rattle.std.proofs.lemmas.Option.{none-some}
use Rattle.std.proofs.lemmas.List.Folds.{list_any_none}
use Rattle.capbits.specs.declared.cap.Cap.{Cap}
use Rattle.capbits.specs.Caps.{Caps, all_caps, has}
use Rattle.capbits.specs.Sets.{has-meet, has-none, has-where, is_empty, meet, no_caps, same_cap, same_cap-eq, same_caps}
use Rattle.capbits.proofs.Emptiness.{has-is_empty, in_all, is_empty-no_caps}
use Rattle.locktable.specs.Conflicts.{AreApart, barred_by, conflict}
use Rattle.policy_analysis.proofs.Lists.{found, none_passes}
use Rattle.cluster_audit.specs.declared.conflict.Holding.{Holding}
use Rattle.cluster_audit.specs.Conflicts.{conflict_of, conflicting_caps}
use Rattle.cluster_audit.proofs.ConflictingCaps.{test}

either_way : (c d : Cap) → conflict c d ≡ conflict d c
either_way c d = or_comm (list_any (same_cap d) (barred_by c)) (list_any (same_cap c) (barred_by d))

has-conflicting_caps : (caps : Caps) (d : Cap) → has (conflicting_caps caps) d ≡ list_any (test caps d) all_caps
unfolding conflicting_caps
has-conflicting_caps caps d = has-where (λ e. list_any (test caps e) all_caps) d

apart_where_none : (a b : Caps) → IsTrue (is_empty (meet b (conflicting_caps a))) → AreApart a b
apart_where_none a b none = record { no_conflict = λ c d own other. either_way c d ∙ ap (λ (t : Bool). t && conflict d c) (sym own) ∙ no_test c d other }
  where
    -- no cap of the one set is a rival of this one
    no_test : (c d : Cap) → has b d ≡ true → test a d c ≡ false
    no_test c d other =
        let out : has (conflicting_caps a) d ≡ false = ap (λ (t : Bool). t && has (conflicting_caps a) d) (sym other) ∙ sym (has-meet b (conflicting_caps a) d) ∙ has-is_empty (meet b (conflicting_caps a)) none d in
        let one = found (λ x. test a d x ≡ false) (same_cap c) all_caps (none_passes (test a d) all_caps (sym (has-conflicting_caps a d) ∙ out)) (in_all c) in
        ap (test a d) (same_cap-eq c one.0 one.2) ∙ one.1

none_where_apart : (a b : Caps) → AreApart a b → IsTrue (is_empty (meet b (conflicting_caps a)))
none_where_apart a b apart = (is_empty-no_caps (meet b (conflicting_caps a))).1 (same_caps (meet b (conflicting_caps a)) no_caps (λ d. has-meet b (conflicting_caps a) d ∙ by_own d (has b d) refl ∙ sym (has-none d)))
  where
    passes_none : (d : Cap) → has b d ≡ true → (x : Cap) (t : Bool) → has a x ≡ t → (t && conflict d x) ≡ false
    passes_none d other x true own = either_way d x ∙ apart.no_conflict x d own other
    passes_none d other x false own = refl

    by_own : (d : Cap) (t : Bool) → has b d ≡ t → (t && has (conflicting_caps a) d) ≡ false
    by_own d false own = refl
    by_own d true own = has-conflicting_caps a d ∙ list_any_none (test a d) all_caps (λ k e less. passes_none d own (get_or all_caps k e) (has a (get_or all_caps k e)) refl)

pub listed_exactly : (one other : Holding) → one.client ≢ other.client → (conflict_of one other ≡ None) ↔ AreApart one.caps other.caps
listed_exactly one other ne = ((λ e. apart_where_none one.caps other.caps (by_test (is_empty (meet other.caps (conflicting_caps one.caps))) refl e)), (λ apart. rw (ne_eqb one.client other.client ne, none_where_apart one.caps other.caps apart) refl))
  where
    by_test : (b : Bool) → is_empty (meet other.caps (conflicting_caps one.caps)) ≡ b → conflict_of one other ≡ None → is_empty (meet other.caps (conflicting_caps one.caps)) ≡ true
    by_test true is e = is
    by_test false is e = absurd (none-some _ (sym (rw (ne_eqb one.client other.client ne, is) at e)))
