-- What somebody is permitted, by whether somebody may read and whether somebody may write.
use Rattle.std.proofs.Common.{◌≡◌, ℕ, Bool, true, false, ◌⊎◌, inl, inr, List, ◌∷◌, refl, sym, ap, subst, ◌∙◌, arith}
use Rattle.std.specs.Prelude.{◌↔◌, All, Contains, IsTrue}
use Rattle.std.proofs.lemmas.Bool.{both_ways}
use Rattle.std.proofs.lemmas.List.Elements.{Contains-append_right}
use Rattle.std.proofs.lemmas.List.Folds.{list_any_at, list_any_none}
use Rattle.capbits.specs.declared.caller.Caller.{Caller}
use Rattle.capbits.specs.declared.cap.Cap.{Cap}
use Rattle.capbits.specs.Caps.{Caps, has}
use Rattle.capspec.specs.declared.grant.Grant.{Grant}
use Rattle.capgrant.specs.declared.access.Access.{Access}
use Rattle.capgrant.specs.declared.access.Access.TheVariants.{Read, Write}
use Rattle.capgrant.specs.declared.rules.Rules.{Rules}
use Rattle.capgrant.specs.Permitted.{caps_for, permitted_of}
use Rattle.capgrant.specs.Verdict.{allows, granted}
use Rattle.policy_analysis.specs.Callers.{AllowsNone, AllowsSome}
use Rattle.policy_analysis.specs.declared.standing.Standing.{Standing}
use Rattle.policy_analysis.specs.declared.standing.Standing.TheVariants.{Allowed, Denied, Depends}
use Rattle.policy_analysis.specs.Standing.{AnswersOf, IsFirst}
use Rattle.cluster_audit.specs.Callers.{Inode, IsPermittedToSome, SomebodyMay, asked, permitted_to, wanted_of}
use Rattle.cluster_audit.proofs.Permitting.{by_one, by_read, by_write}

-- ---- of one access

pub somebody : (i : Inode) (grants : List Grant) (a : Access) (n : ℕ) → IsFirst (AllowsSome (wanted_of i a) i.attr) (AllowsNone (wanted_of i a) i.attr) grants n → SomebodyMay i grants a
somebody i grants a n first =
    let who = first.does in
    let among : Contains grants first.grant = rw first.order (Contains-append_right first.before (first.grant ∷ first.after) first.grant (0, omega arith, refl)) in
    (who.0, (first.grant, among, who.1), list_any_at (allows (asked i who.0 a)) grants among.0 first.grant among.1 (ap (allows (asked i who.0 a)) among.2 ∙ who.2))

pub nobody : (i : Inode) (grants : List Grant) (a : Access) → All (AllowsNone (wanted_of i a) i.attr) grants → (c : Caller) → granted (asked i c a) grants ≡ false
nobody i grants a none c = list_any_none (allows (asked i c a)) grants (λ k d less. none k d less c)

-- by what the standing is
pub if_allowed : (i : Inode) (grants : List Grant) (a : Access) (s : Standing) (n : ℕ) → AnswersOf (wanted_of i a) i.attr grants s → s ≡ Allowed n → SomebodyMay i grants a
if_allowed i grants a s n answers is = somebody i grants a n (subst (λ (t : Standing). AnswersOf (wanted_of i a) i.attr grants t) is answers)

pub if_not : (i : Inode) (grants : List Grant) (a : Access) (s : Standing) → AnswersOf (wanted_of i a) i.attr grants s → ((n : ℕ) → s ≡ Allowed n → ⊥) → (c : Caller) → granted (asked i c a) grants ≡ false
if_not i grants a (Allowed n) answers not = absurd (not n refl)
if_not i grants a (Depends n) answers not = absurd answers
if_not i grants a (Denied rules) answers not = nobody i grants a answers.0

pub must_deny : (i : Inode) (grants : List Grant) (a : Access) (s : Standing) → AnswersOf (wanted_of i a) i.attr grants s → ((c : Caller) → granted (asked i c a) grants ≡ false) → ((rules : Rules) → s ≡ Denied rules → ⊥) → ⊥
must_deny i grants a (Allowed n) answers none not = let who = somebody i grants a n answers in both_ways (granted (asked i who.0 a) grants) (none who.0) who.2
must_deny i grants a (Depends n) answers none not = answers
must_deny i grants a (Denied rules) answers none not = not rules refl

-- ---- of both

-- whether somebody may is known for both
module _ (i : Inode) (grants : List Grant) (reads writes : Bool)
    (somebody_reads : reads ≡ true → SomebodyMay i grants Read) (nobody_reads : reads ≡ false → (c : Caller) → granted (asked i c Read) grants ≡ false)
    (somebody_writes : writes ≡ true → SomebodyMay i grants Write) (nobody_writes : writes ≡ false → (c : Caller) → granted (asked i c Write) grants ≡ false) where
  pub to_some : (cap : Cap) → has (caps_for reads writes) cap ≡ true → IsPermittedToSome i grants cap
  unfolding permitted_of
  to_some cap e = by_access (by_one reads writes cap e)
    where
      by_access : ((reads ≡ true) × (has (caps_for true false) cap ≡ true)) ⊎ ((writes ≡ true) × (has (caps_for false true) cap ≡ true)) → IsPermittedToSome i grants cap
      by_access (inl one) =
          let who = somebody_reads one.0 in
          (who.0, who.1, ap (λ (b : Bool). has (caps_for b (granted (asked i who.0 Write) grants)) cap) who.2 ∙ by_read (granted (asked i who.0 Write) grants) cap one.1)
      by_access (inr one) =
          let who = somebody_writes one.0 in
          (who.0, who.1, ap (λ (b : Bool). has (caps_for (granted (asked i who.0 Read) grants) b) cap) who.2 ∙ by_write (granted (asked i who.0 Read) grants) cap one.1)

  pub of_any : (c : Caller) (cap : Cap) → has (permitted_to i grants c) cap ≡ true → has (caps_for reads writes) cap ≡ true
  unfolding permitted_of
  of_any c cap e = by_access (by_one (granted (asked i c Read) grants) (granted (asked i c Write) grants) cap e)
    where
      read_so : (b : Bool) → reads ≡ b → granted (asked i c Read) grants ≡ true → b ≡ true
      read_so true is may = refl
      read_so false is may = absurd (both_ways (granted (asked i c Read) grants) (nobody_reads is c) may)

      written_so : (b : Bool) → writes ≡ b → granted (asked i c Write) grants ≡ true → b ≡ true
      written_so true is may = refl
      written_so false is may = absurd (both_ways (granted (asked i c Write) grants) (nobody_writes is c) may)

      by_access : ((granted (asked i c Read) grants ≡ true) × (has (caps_for true false) cap ≡ true)) ⊎ ((granted (asked i c Write) grants ≡ true) × (has (caps_for false true) cap ≡ true)) → has (caps_for reads writes) cap ≡ true
      by_access (inl one) = ap (λ (b : Bool). has (caps_for b writes) cap) (read_so reads refl one.0) ∙ by_read writes cap one.1
      by_access (inr one) = ap (λ (b : Bool). has (caps_for reads b) cap) (written_so writes refl one.0) ∙ by_write reads cap one.1

  pub exactly : (caps : Caps) → ((cap : Cap) → has caps cap ≡ has (caps_for reads writes) cap) → (cap : Cap) → IsTrue (has caps cap) ↔ IsPermittedToSome i grants cap
  exactly caps is cap = ((λ e. to_some cap (sym (is cap) ∙ e)), (λ some. is cap ∙ of_any some.0 cap some.2))
