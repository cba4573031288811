-- What is beyond, and why.
use Rattle.std.proofs.Common.{◌≡◌, Bool, true, false, not, Option, Some, None, List, [], ◌∷◌, ◌++◌, refl, sym, ap, ◌∙◌}
use Rattle.std.specs.Prelude.{◌↔◌, IfSome, IsTrue, All, if◌then◌else◌}
use Rattle.std.specs.List.{list_all}
use Rattle.std.proofs.lemmas.Bool.{and_from, and_parts, both_ways, not-true, not_from_false}
use Rattle.std.proofs.lemmas.List.Elements.{All-cons, All-nil}
use Rattle.capbits.specs.declared.caller.Caller.{Caller}
use Rattle.capbits.specs.declared.cap.Cap.{Cap}
use Rattle.capbits.specs.Caps.{Caps, caps_where, has}
use Rattle.capbits.specs.Sets.{caps_in, has-minus, has-none, minus, no_caps, union}
use Rattle.capspec.specs.declared.grant.Grant.{Grant}
use Rattle.capgrant.specs.declared.access.Access.{Access}
use Rattle.capgrant.specs.declared.access.Access.TheVariants.{Read, Write}
use Rattle.capgrant.specs.Permitted.{caps_for, for_either, for_readers, for_writers, permitted_of}
use Rattle.capgrant.specs.Verdict.{granted}
use Rattle.locktable.specs.Targets.{has_any}
use Rattle.policy_analysis.proofs.Lists.{found}
use Rattle.cluster_audit.specs.Callers.{Inode, asked, permitted_to}
use Rattle.cluster_audit.specs.Findings.{least_access}
use Rattle.cluster_audit.proofs.Permitting.{by_read, by_write}

-- ---- what is beyond

beyond_exactly : (held may : Caps) (cap : Cap) (P : Type 0) → (IsTrue (has may cap) ↔ P) → IsTrue (has (minus held may) cap) ↔ (IsTrue (has held cap) × (P → ⊥))
beyond_exactly held may cap P exact = (forth, back)
  where
    forth : IsTrue (has (minus held may) cap) → IsTrue (has held cap) × (P → ⊥)
    forth e =
        let parts = and_parts (has held cap) (not (has may cap)) (sym (has-minus held may cap) ∙ e) in
        (parts.0, λ p. both_ways (has may cap) (not-true (has may cap) parts.1) (exact.1 p))

    back : IsTrue (has held cap) × (P → ⊥) → IsTrue (has (minus held may) cap)
    back both = has-minus held may cap ∙ and_from (has held cap) (not (has may cap)) both.0 (not_from_false (has may cap) (by_test (has may cap) refl))
      where
        by_test : (b : Bool) → has may cap ≡ b → b ≡ false
        by_test true e = absurd (both.1 (exact.0 e))
        by_test false e = refl

-- the same of the set that was found
pub found_exactly : (held may found : Caps) (cap : Cap) (P : Type 0) → found ≡ minus held may → (IsTrue (has may cap) ↔ P) → IsTrue (has found cap) ↔ (IsTrue (has held cap) × (P → ⊥))
found_exactly held may found cap P is exact =
    let both = beyond_exactly held may cap P exact in
    let same : has found cap ≡ has (minus held may) cap = ap (λ (s : Caps). has s cap) is in
    ((λ e. both.0 (sym same ∙ e)), (λ own. same ∙ both.1 own))

-- where nothing is, each is permitted
pub none_beyond : (held may : Caps) → minus held may ≡ no_caps → (cap : Cap) (P : Type 0) → (IsTrue (has may cap) ↔ P) → IsTrue (has held cap) → P
none_beyond held may none cap P exact own = exact.0 (by_test (has may cap) refl)
  where
    by_test : (b : Bool) → has may cap ≡ b → has may cap ≡ true
    by_test true e = e
    by_test false e =
        let out : has (minus held may) cap ≡ true = has-minus held may cap ∙ and_from (has held cap) (not (has may cap)) own (not_from_false (has may cap) e) in
        absurd (both_ways (has (minus held may) cap) (ap (λ (s : Caps). has s cap) none ∙ has-none cap) out)

-- what is beyond is permitted to no caller at all
pub to_nobody : (i : Inode) (grants : List Grant) (held may : Caps) → ((c : Caller) (cap : Cap) → has (permitted_to i grants c) cap ≡ true → has may cap ≡ true) → (cap : Cap) → has (minus held may) cap ≡ true → (c : Caller) → has (permitted_to i grants c) cap ≡ false
to_nobody i grants held may all cap e c = by_test (has (permitted_to i grants c) cap) refl
  where
    by_test : (b : Bool) → has (permitted_to i grants c) cap ≡ b → b ≡ false
    by_test false is = refl
    by_test true is =
        let parts = and_parts (has held cap) (not (has may cap)) (sym (has-minus held may cap) ∙ e) in
        absurd (both_ways (has may cap) (not-true (has may cap) parts.1) (all c cap is))

-- ---- the access that is missing

of_list : {X : Type 0} (p : X → Bool) (xs : List X) → list_all p xs ≡ true → All (λ x. p x ≡ true) xs
of_list p [] e = All-nil (λ x. p x ≡ true)
of_list p (x ∷ xs) e =
    let parts = and_parts (p x) (list_all p xs) e in
    All-cons (λ y. p y ≡ true) x xs parts.0 (of_list p xs parts.1)

readers : list_all (has (caps_for true false)) (for_either ++ for_readers) ≡ true
unfolding has caps_where union caps_in no_caps
readers = refl

writers : list_all (has (caps_for false true)) for_writers ≡ true
unfolding has caps_where union caps_in no_caps
writers = refl

nobody_reads : (i : Inode) (grants : List Grant) (cap : Cap) → has (caps_for true false) cap ≡ true → ((c : Caller) → has (permitted_to i grants c) cap ≡ false) → (c : Caller) → granted (asked i c Read) grants ≡ false
unfolding permitted_of
nobody_reads i grants cap is none c = by_test (granted (asked i c Read) grants) refl
  where
    by_test : (b : Bool) → granted (asked i c Read) grants ≡ b → b ≡ false
    by_test false e = refl
    by_test true e = absurd (both_ways (has (permitted_to i grants c) cap) (none c) (ap (λ (b : Bool). has (caps_for b (granted (asked i c Write) grants)) cap) e ∙ by_read (granted (asked i c Write) grants) cap is))

nobody_writes : (i : Inode) (grants : List Grant) (cap : Cap) → has (caps_for false true) cap ≡ true → ((c : Caller) → has (permitted_to i grants c) cap ≡ false) → (c : Caller) → granted (asked i c Write) grants ≡ false
unfolding permitted_of
nobody_writes i grants cap is none c = by_test (granted (asked i c Write) grants) refl
  where
    by_test : (b : Bool) → granted (asked i c Write) grants ≡ b → b ≡ false
    by_test false e = refl
    by_test true e = absurd (both_ways (has (permitted_to i grants c) cap) (none c) (ap (λ (b : Bool). has (caps_for (granted (asked i c Read) grants) b) cap) e ∙ by_write (granted (asked i c Read) grants) cap is))

-- nobody is allowed the access that is missing
pub nobody_may : (i : Inode) (grants : List Grant) (caps : Caps) (missing : Option Access) → missing ≡ least_access caps → ((cap : Cap) → has caps cap ≡ true → (c : Caller) → has (permitted_to i grants c) cap ≡ false) → IfSome missing (λ a. (c : Caller) → granted (asked i c a) grants ≡ false)
nobody_may i grants caps missing is none = rw is (by_read_cap (has_any caps (for_either ++ for_readers)) refl)
  where
    by_write_cap : (b : Bool) → has_any caps for_writers ≡ b → IfSome (if b then Some Write else None) (λ a. (c : Caller) → granted (asked i c a) grants ≡ false)
    by_write_cap false e = tt
    by_write_cap true e =
        let one = found (λ cap. has (caps_for false true) cap ≡ true) (has caps) for_writers (of_list (has (caps_for false true)) for_writers writers) e in
        nobody_writes i grants one.0 one.1 (none one.0 one.2)

    by_read_cap : (b : Bool) → has_any caps (for_either ++ for_readers) ≡ b → IfSome (if b then Some Read else (if has_any caps for_writers then Some Write else None)) (λ a. (c : Caller) → granted (asked i c a) grants ≡ false)
    by_read_cap true e =
        let one = found (λ cap. has (caps_for true false) cap ≡ true) (has caps) (for_either ++ for_readers) (of_list (has (caps_for true false)) (for_either ++ for_readers) readers) e in
        nobody_reads i grants one.0 one.1 (none one.0 one.2)
    by_read_cap false e = by_write_cap (has_any caps for_writers) refl
