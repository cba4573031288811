-- How many grants have to be stood in for, and why none stand in.
use Rattle.std.proofs.Common.{◌≡◌, ℕ, ◌+◌, ◌*◌, ◌<◌, ◌≤◌, Bool, true, false, cond, ◌||◌, ◌⊎◌, inl, inr, Option, Some, None, List, [], ◌∷◌, ◌++◌, length, take, drop, get_or, refl, sym, ap, subst, ◌∙◌, arith}
use Rattle.std.specs.Prelude.{Contains, IfErr, IfSome, IsErrAnd, IsTrue, Result, Ok, Err, filter, is_some, if◌then◌else◌}
use Rattle.std.specs.List.{list_any}
use Rattle.std.proofs.Math.Nat.{add-mul, mul-le-mul_right}
use Rattle.std.proofs.lemmas.List.{append-nil, append_assoc, length-append, take-append-drop, take_more}
use Rattle.std.proofs.lemmas.List.Elements.{Contains-append_left, Contains-push, filter-append}
use Rattle.std.proofs.lemmas.List.Filters.{length-filter_more}
use Rattle.release_grants.specs.declared.grant.Grant.{Grant}
use Rattle.release_grants.specs.declared.switches.Switches.{Switches}
use Rattle.release_rules.specs.Failing.{user_of}
use Rattle.policy_analysis.specs.declared.stand_ins.NotCompared.{NotCompared}
use Rattle.policy_analysis.specs.declared.stand_ins.NotCompared.TheVariants.{NoMemory, TooLarge}
use Rattle.policy_analysis.specs.ComparingBy.{Terms}
use Rattle.policy_analysis.specs.StandIns.{HasNone, IsWhyNone, IsWhyNot, IsWhyNotAdded, allowing, allows_something, file_systems, mounts_each, named_after, names, newly_named}

-- a reason that is handed on as it is
pub handed_on : {T : Type 0} (P : NotCompared → Type 0) (r : Result T NotCompared) (why : NotCompared) → IsErrAnd r (λ reported. reported ≡ why) → P why → IfErr r P
handed_on P (Ok done) why reported holds = tt
handed_on P (Err same) why reported holds = subst P (sym reported) holds

-- ---- how many

-- no file system yet
pub no_times : (each : ℕ) → 0 ≡ 0 * each
no_times each = omega arith

-- none yet
pub plus_none : (n : ℕ) → n ≡ n + 0
plus_none n = omega arith

once : (n : ℕ) → 16 < 0 + n → 16 < 1 * n
once n less = omega arith

once_more : (n each : ℕ) → n + each ≡ n + 1 * each
once_more n each = omega arith

wider : (n a b c : ℕ) → n < a → a ≡ b → b ≤ c → n < c
wider n a b c less same within = omega arith

-- ---- one grant

-- too many gids
pub too_many_gids : (s : Switches) (fs : Option (List ℕ)) (g : Grant) (why : NotCompared) (uid : Option ℕ) → uid ≡ user_of s g → (why ≡ TooLarge) × IsTrue (is_some uid) × (16 < length g.gids) → IsWhyNone s fs g why
too_many_gids s fs g why uid of all = subst (IsWhyNone s fs g) (sym all.0) (inl (subst (λ (u : Option ℕ). IsTrue (is_some u)) of all.1, all.2))

-- ---- those of a list that allow something

module _ (p : Grant → Bool) (grants : List Grant) (i : ℕ) (g : Grant) (within : i < length grants) (is : g ≡ get_or grants i g) where
  passes_or_not : (b : Bool) → p g ≡ b → length (filter p (take (i + 1) grants)) ≡ length (filter p (take i grants)) + cond b 1 0
  passes_or_not b passes = length-filter_more p grants i g within ∙ ap (λ (c : Bool). length (filter p (take i grants)) + cond c 1 0) (ap p (sym is) ∙ passes)

  -- one more
  pub one_passes : p g ≡ true → length (filter p (take (i + 1) grants)) ≡ length (filter p (take i grants)) + 1
  one_passes passes = passes_or_not true passes

  -- as many
  pub one_fails : p g ≡ false → length (filter p (take (i + 1) grants)) ≡ length (filter p (take i grants))
  one_fails fails = let same : length (filter p (take (i + 1) grants)) ≡ length (filter p (take i grants)) + 0 = passes_or_not false fails in omega arith

  pub more_added : {X : Type 0} (passes : p g ≡ true) (old : ℕ) (before after : List X) (own : X) → length before ≡ old + length (filter p (take i grants)) → after ≡ before ++ own ∷ [] → length after ≡ old + length (filter p (take (i + 1) grants))
  more_added passes old before after own so_far more =
      let one = one_passes passes in
      let long : length after ≡ length before + 1 = ap length more ∙ length-append before (own ∷ []) in
      omega arith

  -- it is among all of them
  pub one_of_all : p g ≡ true → length (filter p (take i grants)) + 1 ≤ length (filter p grants)
  one_of_all passes =
      let split : length (filter p grants) ≡ length (filter p (take (i + 1) grants)) + length (filter p (drop (i + 1) grants)) =
      ap (λ (gs : List Grant). length (filter p gs)) (sym (take-append-drop (i + 1) grants)) ∙ ap length (filter-append p (take (i + 1) grants) (drop (i + 1) grants)) ∙ length-append (filter p (take (i + 1) grants)) (filter p (drop (i + 1) grants)) in
      let one = one_passes passes in
      omega arith

module _ (vxattr : Bool) (t : Terms) (maybe : Bool) (fs : Option (List ℕ)) (grants : List Grant) (i : ℕ) (g : Grant) (within : i < length grants) (is : g ≡ get_or grants i g) (allows : allows_something t maybe vxattr g ≡ true) where
  has_none : (why : NotCompared) → IsWhyNone t.switches fs g why → HasNone vxattr t maybe fs grants why
  has_none why none = (g, (i, within, sym is), allows, none)

  -- none stands in for one of them
  pub one_has_none : (size : ℕ) (why : NotCompared) → IsWhyNone t.switches fs g why → IsWhyNotAdded vxattr t maybe fs grants size why
  one_has_none size why none = inr (has_none why none)

  -- no more are added
  pub none_added : (old before : ℕ) (why : NotCompared) → before ≡ old + length (allowing vxattr t maybe (take i grants)) → ((why ≡ TooLarge) × (16 ≤ before)) ⊎ (why ≡ NoMemory) → IsWhyNotAdded vxattr t maybe fs grants old why
  none_added old before why so_far (inl full) =
      let more = one_of_all (allows_something t maybe vxattr) grants i g within is allows in
      let before_is : before ≡ old + length (filter (allows_something t maybe vxattr) (take i grants)) = so_far in
      let many : 16 ≤ before = full.1 in
      let all : 16 < old + length (filter (allows_something t maybe vxattr) grants) = omega arith in
      inl (full.0, all)
  none_added old before why so_far (inr none) = inr (has_none why (subst (IsWhyNone t.switches fs g) (sym none) tt))

-- ---- the file systems

named_more : (before xs ys : List Grant) → named_after before (xs ++ ys) ≡ named_after before xs ++ named_after (before ++ xs) ys
named_more before [] ys = ap (λ (gs : List Grant). named_after gs ys) (sym (append-nil before))
named_more before (x ∷ xs) ys =
    ap (λ (more : List (Option (List ℕ))). newly_named before x.fsname ++ more) (named_more (before ++ x ∷ []) xs ys ∙ ap (λ (gs : List Grant). named_after (before ++ x ∷ []) xs ++ named_after gs ys) (append_assoc before (x ∷ []) xs))
    ∙ sym (append_assoc (newly_named before x.fsname) (named_after (before ++ x ∷ []) xs) (named_after (before ++ x ∷ xs) ys))

-- one for all
pub on_each : (s : Switches) (grants : List Grant) → (s.judges_fsname || list_any (mounts_each s) grants) ≡ true → file_systems s grants ≡ None ∷ []
on_each s grants either = ap (λ (b : Bool). if b then None ∷ [] else named_after [] grants) either

-- each that is named
on_named : (s : Switches) (grants : List Grant) → s.judges_fsname ≡ false → list_any (mounts_each s) grants ≡ false → file_systems s grants ≡ named_after [] grants
on_named s grants judges none = (λ i. if judges i || none i then None ∷ [] else named_after [] grants)

module _ (grants : List Grant) (i : ℕ) (g : Grant) (within : i < length grants) (is : g ≡ get_or grants i g) where
  one_more : named_after [] (take (i + 1) grants) ≡ named_after [] (take i grants) ++ newly_named (take i grants) g.fsname
  one_more =
      ap (named_after []) (take_more grants i g within ∙ ap (λ (x : Grant). take i grants ++ x ∷ []) (sym is))
      ∙ named_more [] (take i grants) (g ∷ [])
      ∙ ap (λ (more : List (Option (List ℕ))). named_after [] (take i grants) ++ more) (append-nil (newly_named (take i grants) g.fsname))

  one_named : (name : List ℕ) → g.fsname ≡ Some name → list_any (names name) (take i grants) ≡ false → named_after [] (take (i + 1) grants) ≡ named_after [] (take i grants) ++ Some name ∷ []
  one_named name named first =
      one_more ∙ ap (λ (more : List (Option (List ℕ))). named_after [] (take i grants) ++ more)
      (ap (newly_named (take i grants)) named ∙ ap (λ (b : Bool). if b then [] else Some name ∷ []) first)

  split : named_after [] grants ≡ named_after [] (take (i + 1) grants) ++ named_after (take (i + 1) grants) (drop (i + 1) grants)
  split = ap (named_after []) (sym (take-append-drop (i + 1) grants)) ∙ named_more [] (take (i + 1) grants) (drop (i + 1) grants)

  -- as many times more those that stand in on one file system
  pub times_more : (each before after : ℕ) (name : List ℕ) → g.fsname ≡ Some name → list_any (names name) (take i grants) ≡ false → before ≡ length (named_after [] (take i grants)) * each → after ≡ before + each
      → after ≡ length (named_after [] (take (i + 1) grants)) * each
  times_more each before after name named first so_far more =
      let long : length (named_after [] (take (i + 1) grants)) ≡ length (named_after [] (take i grants)) + 1 = ap length (one_named name named first) ∙ length-append (named_after [] (take i grants)) (Some name ∷ []) in
      let times : (length (named_after [] (take i grants)) + 1) * each ≡ length (named_after [] (take i grants)) * each + 1 * each = add-mul (length (named_after [] (take i grants))) 1 each in
      let same : before + each ≡ length (named_after [] (take i grants)) * each + 1 * each = ap (λ (n : ℕ). n + each) so_far ∙ once_more (length (named_after [] (take i grants)) * each) each in
      more ∙ same ∙ sym times ∙ ap (λ (n : ℕ). n * each) (sym long)

  -- no file system more
  pub times_same : (each before : ℕ) → IfSome g.fsname (λ name. list_any (names name) (take i grants) ≡ true) → before ≡ length (named_after [] (take i grants)) * each → before ≡ length (named_after [] (take (i + 1) grants)) * each
  times_same each before known so_far =
      so_far ∙ ap (λ (named : List (Option (List ℕ))). length named * each) (sym (one_more ∙ ap (λ (more : List (Option (List ℕ))). named_after [] (take i grants) ++ more) (none_new g.fsname known) ∙ append-nil (named_after [] (take i grants))))
    where
      none_new : (name : Option (List ℕ)) → IfSome name (λ n. list_any (names n) (take i grants) ≡ true) → newly_named (take i grants) name ≡ []
      none_new None known = refl
      none_new (Some name) known = ap (λ (b : Bool). if b then [] else Some name ∷ []) known

  -- none stand in on this file system
  pub none_on : (vxattr : Bool) (t : Terms) (maybe : Bool) (before : ℕ) (name : List ℕ) (why : NotCompared) → t.switches.judges_fsname ≡ false → list_any (mounts_each t.switches) grants ≡ false
      → g.fsname ≡ Some name → list_any (names name) (take i grants) ≡ false → before ≡ length (named_after [] (take i grants)) * length (allowing vxattr t maybe grants)
      → IsWhyNotAdded vxattr t maybe (Some name) grants before why → IsWhyNot vxattr t maybe grants why
  none_on vxattr t maybe before name why judges none named first so_far (inl many) =
      let each = length (allowing vxattr t maybe grants) in
      let times = times_more each before (before + each) name named first so_far refl in
      let long : length (named_after [] grants) ≡ length (named_after [] (take (i + 1) grants)) + length (named_after (take (i + 1) grants) (drop (i + 1) grants)) = ap length split ∙ length-append (named_after [] (take (i + 1) grants)) (named_after (take (i + 1) grants) (drop (i + 1) grants)) in
      let fewer : length (named_after [] (take (i + 1) grants)) * each ≤ length (named_after [] grants) * each = mul-le-mul_right each (omega arith) in
      let large : 16 < before + each = many.1 in
      let all : 16 < length (named_after [] grants) * each = wider 16 (before + each) (length (named_after [] (take (i + 1) grants)) * each) (length (named_after [] grants) * each) large times fewer in
      inl (many.0, subst (λ (on : List (Option (List ℕ))). 16 < length on * each) (sym (on_named t.switches grants judges none)) all)
  none_on vxattr t maybe before name why judges none named first so_far (inr one) =
      let among : Contains (named_after [] grants) (Some name) =
      subst (λ (on : List (Option (List ℕ))). Contains on (Some name)) (sym split)
      (Contains-append_left (named_after [] (take (i + 1) grants)) (named_after (take (i + 1) grants) (drop (i + 1) grants)) (Some name)
      (subst (λ (on : List (Option (List ℕ))). Contains on (Some name)) (sym (one_named name named first)) (Contains-push (named_after [] (take i grants)) (Some name)))) in
      inr (Some name, subst (λ (on : List (Option (List ℕ))). Contains on (Some name)) (sym (on_named t.switches grants judges none)) among, one)

-- none stand in, each for all file systems
pub none_on_each : (vxattr : Bool) (t : Terms) (maybe : Bool) (grants : List Grant) (why : NotCompared) → (t.switches.judges_fsname || list_any (mounts_each t.switches) grants) ≡ true → IsWhyNotAdded vxattr t maybe None grants 0 why → IsWhyNot vxattr t maybe grants why
none_on_each vxattr t maybe grants why either (inl many) =
    let large : 16 < 0 + length (allowing vxattr t maybe grants) = many.1 in
    inl (many.0, subst (λ (on : List (Option (List ℕ))). 16 < length on * length (allowing vxattr t maybe grants)) (sym (on_each t.switches grants either)) (once (length (allowing vxattr t maybe grants)) large))
none_on_each vxattr t maybe grants why either (inr one) =
    inr (None, subst (λ (on : List (Option (List ℕ))). Contains on None) (sym (on_each t.switches grants either)) (0, omega arith, refl), one)
