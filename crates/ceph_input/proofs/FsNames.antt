-- The names that the grants of one entity after the other name.
use Rattle.std.proofs.Common.{◌≡◌, ℕ, ◌+◌, ◌<◌, ◌≤◌, Option, None, Some, inl, inr, List, [], ◌∷◌, ◌++◌, length, drop, get_or, refl, sym, ap, subst, ◌∙◌, arith}
use Rattle.std.proofs.lemmas.Bool.{false≢true}
use Rattle.std.proofs.lemmas.List.{drop_all, drop_more}
use Rattle.std.specs.Prelude.{◌⊎◌, ◌≢◌, ◌↔◌, IfSome, IsSome, codes}
use Rattle.std.specs.List.{AllZip, cons_option, flat_map}
use Rattle.capspec.specs.declared.fault.SpecFault.{SpecFault}
use Rattle.capspec.specs.declared.fault.SpecFaultKind.TheVariants.{NoMemory}
use Rattle.capspec.specs.declared.grant.Grant.{Grant}
use Rattle.capspec.specs.Faults.{IsFault, IsNoMemory}
use Rattle.capspec.specs.Grants.{Reads}
use Rattle.capspec.specs.Names.{IsFsName}
use Rattle.ceph_input.specs.Auth.{Named}
use Rattle.ceph_input.specs.FsNames.{AreFsNames, AreGrantsIn, HasGrants, named_by, the_one, with_name, with_names}

-- ---- one name after the other

with_names_append : (names more others : List (List ℕ)) → with_names names (more ++ others) ≡ with_names (with_names names more) others
with_names_append names [] others = refl
with_names_append names (name ∷ more) others = with_names_append (with_name names name) more others

module _ (grants : List Grant) (i : ℕ) (g : Grant) (inside : i < length grants) (is : g ≡ get_or grants i g) (whole : List (List ℕ)) where
  here : named_by (drop i grants) ≡ cons_option g.fsname (named_by (drop (i + 1) grants))
  here = ap named_by (drop_more grants i g inside ∙ ap (λ (y : Grant). y ∷ drop (i + 1) grants) (sym is))

  -- the grant names one
  pub one_name : (before after : List (List ℕ)) (name : List ℕ) → g.fsname ≡ Some name → after ≡ with_name before name → with_names before (named_by (drop i grants)) ≡ whole → with_names after (named_by (drop (i + 1) grants)) ≡ whole
  one_name before after name some added all =
      ap (λ (ns : List (List ℕ)). with_names ns (named_by (drop (i + 1) grants))) added
      ∙ sym (ap (with_names before) (here ∙ ap (λ (o : Option (List ℕ)). cons_option o (named_by (drop (i + 1) grants))) some))
      ∙ all

  -- it names none
  pub no_name : (before after : List (List ℕ)) → g.fsname ≡ None → after ≡ before → with_names before (named_by (drop i grants)) ≡ whole → with_names after (named_by (drop (i + 1) grants)) ≡ whole
  no_name before after none same all =
      ap (λ (ns : List (List ℕ)). with_names ns (named_by (drop (i + 1) grants))) same
      ∙ sym (ap (with_names before) (here ∙ ap (λ (o : Option (List ℕ)). cons_option o (named_by (drop (i + 1) grants))) none))
      ∙ all

pub no_more_names : (grants : List Grant) (i : ℕ) (names whole : List (List ℕ)) → length grants ≤ i → with_names names (named_by (drop i grants)) ≡ whole → names ≡ whole
no_more_names grants i names whole end all = sym (ap (λ (gs : List Grant). with_names names (named_by gs)) (drop_all i grants end)) ∙ all

-- ---- one entity after the other

-- with what the others name behind them these are the names that all name
abbrev pub AreBegun : List Named → ℕ → List (List ℕ) → Type 0
AreBegun entities i names = (rest : List (List Grant)) → AllZip HasGrants (drop i entities) rest → AreFsNames entities (with_names names (flat_map named_by rest))

pub none_named : (entities : List Named) (names : List (List ℕ)) → names ≡ [] → AreBegun entities 0 names
none_named entities names none rest zipped = (rest, zipped, ap (λ (ns : List (List ℕ)). with_names ns (flat_map named_by rest)) none)

pub one_named : (entities : List Named) (i : ℕ) (e : Named) (before after : List (List ℕ)) (grants : List Grant) → i < length entities → e ≡ get_or entities i e
    → AreBegun entities i before → HasGrants e grants → after ≡ with_names before (named_by grants) → AreBegun entities (i + 1) after
one_named entities i e before after grants inside is begun has added rest zipped =
    let here : drop i entities ≡ e ∷ drop (i + 1) entities = drop_more entities i e inside ∙ ap (λ (y : Named). y ∷ drop (i + 1) entities) (sym is) in
    subst (λ (ns : List (List ℕ)). AreFsNames entities ns)
    (with_names_append before (named_by grants) (flat_map named_by rest) ∙ ap (λ (ns : List (List ℕ)). with_names ns (flat_map named_by rest)) (sym added))
    (begun (grants ∷ rest) (subst (λ (es : List Named). AllZip HasGrants es (grants ∷ rest)) (sym here) (has, zipped)))

pub all_named : (entities : List Named) (i : ℕ) (names : List (List ℕ)) → length entities ≤ i → AreBegun entities i names → AreFsNames entities names
all_named entities i names end begun = begun [] (subst (λ (es : List Named). AllZip HasGrants es []) (sym (drop_all i entities end)) tt)

-- ---- the grants of one

pub means_them : (caps : Option (List ℕ)) (text : List ℕ) (grants : List Grant) → Some text ≡ caps → Reads text grants → AreGrantsIn caps grants
means_them caps text grants some reads = subst (λ (c : Option (List ℕ)). AreGrantsIn c grants) some (inl reads)

pub means_none : (caps : Option (List ℕ)) (text : List ℕ) (fault : SpecFault) → Some text ≡ caps → IsFault text fault ⊎ (IsNoMemory fault × (grants : List Grant) × Reads text grants) → fault.kind ≢ NoMemory → AreGrantsIn caps []
means_none caps text fault some (inl is) other = subst (λ (c : Option (List ℕ)). AreGrantsIn c []) some (inr (fault, is, refl))
means_none caps text fault some (inr missed) other = absurd (other (ap (λ (f : SpecFault). f.kind) missed.0))

-- ---- the one of which is asked

pub any_name : (names : List (List ℕ)) (read : Option (List ℕ)) → length names < 1 → (IsSome read ↔ IsFsName (codes "cephfs")) → IfSome read (λ name. name ≡ codes "cephfs") → read ≡ the_one names
any_name [] None few valid value = absurd (false≢true (valid.1 (record { some = omega arith; short = omega arith; all_in = refl })))
any_name [] (Some name) few valid value = ap Some value
any_name (name ∷ names) read few valid value = absurd (omega (arith, few))

pub only_name : (names : List (List ℕ)) (name copy : List ℕ) → length names ≡ 1 → name ≡ get_or names 0 name → copy ≡ name → Some copy ≡ the_one names
only_name [] name copy one is same = absurd (omega (arith, one))
only_name (first ∷ []) name copy one is same = ap Some (same ∙ is)
only_name (first ∷ other ∷ names) name copy one is same = absurd (omega (arith, one))

pub several_names : (names : List (List ℕ)) → 2 ≤ length names → None ≡ the_one names
several_names [] many = absurd (omega (arith, many))
several_names (name ∷ []) many = absurd (omega (arith, many))
several_names (name ∷ other ∷ names) many = refl
