-- What is found of grants and differs is values that differ.
use Rattle.std.proofs.Common.{◌≡◌, ℕ, Bool, true, false, List, [], ◌∷◌, ◌++◌, drop, map, Option, None, Some, refl, sym, ap, subst, ◌∙◌, arith}
use Rattle.std.specs.Prelude.{codes, not, All, IfSome, ◌==◌, if◌then◌else◌}
use Rattle.std.specs.List.{AllZip, flat_map}
use Rattle.std.proofs.lemmas.List.Elements.{All-append, All-cons, All-head, All-nil, All-tail}
use Rattle.std.proofs.lemmas.List.{map-append}
use Rattle.capspec.specs.declared.items.Key.{Key}
use Rattle.capspec.specs.declared.items.Key.TheVariants.{FsName, Gids, Path, RootSquash, Uid}
use Rattle.serde_json.specs.Data.{Data, array, item, string}
use Rattle.policy_analysis.specs.declared.unread.Unread.{Unread}
use Rattle.policy_analysis.specs.declared.unread.Unread.TheVariants.{AnyFileSystem, Order, WhiteSpace}
use Rattle.capspec.specs.Items.{key_name as name}
use Rattle.policy_analysis.specs.declared.finding.Finding.{Finding}
use Rattle.policy_analysis.specs.declared.oddity.Oddity.{Oddity}
use Rattle.policy_analysis.specs.declared.oddity.Oddity.TheVariants.{CommandsMds, GidsAlone, LargeUid, NoNetwork, TwoSlashes, ZeroUid}
use Rattle.policy_analysis.specs.declared.witness.Witness.{Witness}
use Rattle.release_rules.specs.declared.release.Release.TheVariants.{Pacific, Reef, Tentacle}
use Rattle.policy_analysis.specs.declared.releases.Releases.{Releases}
use Rattle.policy_analysis.specs.declared.releases.Releases.TheVariants.{One, Today}
use Rattle.texts.specs.Found.{Found, SameFound, SameOfGrant, all_found, found_by, found_if}
use Rattle.texts.specs.Found.Found.{covered, nothing, odd, refused, stands, undone, unread}
use Rattle.texts.specs.Lines.{TellTheSame}
use Rattle.texts.proofs.Linted.{if_some, in_order, key_at, kind, tag}
use Rattle.texts.proofs.Quoted.{first_byte}
use Rattle.texts.specs.Answers.{IsAskable}
use Rattle.texts.specs.Changes.{asked_by}
use Rattle.texts.specs.Findings.{HasObject, IsAskableIf, IsRead, finding_if, finding_objects, found_object, found_value, odd_value, oddity_word, refused_value}
use Rattle.texts.specs.Findings.{stands_object, undone_line, undone_value}
use Rattle.policy_analysis.specs.Releases.{releases_numbers}
use Rattle.texts.specs.Values.{numbers_value}
use Rattle.texts.proofs.Distinct.{Asks, number_in, one_question, text_in, value_at}
use Rattle.texts.proofs.Streams.{one_line, some_line}

-- ---- what an object has

abbrev kind_of : Found → ℕ
kind_of (refused releases w) = 6
kind_of found = tag found

-- the words of findings differ in these
abbrev tag_in : Data → ℕ
tag_in (string text) =
    let byte : ℕ = first_byte text in
    if byte == 99 then 0
    else (if byte == 97 then 1
    else (if byte == 114 then (if first_byte (drop 1 text) == 111 then 2 else 6) else (if byte == 117 then (if first_byte (drop 7 text) == 98 then 3 else 4) else 5)))
tag_in d = 7

-- and those of reasons in this
abbrev kind_in : Data → ℕ
kind_in (string text) = let byte : ℕ = first_byte text in if byte == 119 then 0 else (if byte == 97 then 1 else 2)
kind_in d = 3

-- what stands at two keys of a finding
record Tells (d : Data) (x : ℕ × Found) : Type 0 where
  found : tag_in (value_at (codes "finding") d) ≡ kind_of x.1
  grant : number_in (value_at (codes "grant") d) ≡ x.0

tells : (grant : ℕ) (found : Found) → Tells (found_value grant found) (grant, found)
tells grant covered = record { found = refl; grant = refl }
tells grant nothing = record { found = refl; grant = refl }
tells grant (undone w) = record { found = refl; grant = refl }
tells grant unread = record { found = refl; grant = refl }
tells grant (stands WhiteSpace) = record { found = refl; grant = refl }
tells grant (stands AnyFileSystem) = record { found = refl; grant = refl }
tells grant (stands (Order first second)) = record { found = refl; grant = refl }
tells grant (odd releases ZeroUid) = record { found = refl; grant = refl }
tells grant (odd releases GidsAlone) = record { found = refl; grant = refl }
tells grant (odd releases CommandsMds) = record { found = refl; grant = refl }
tells grant (odd releases NoNetwork) = record { found = refl; grant = refl }
tells grant (odd releases TwoSlashes) = record { found = refl; grant = refl }
tells grant (odd releases LargeUid) = record { found = refl; grant = refl }
tells grant (refused releases w) = record { found = refl; grant = refl }

-- ---- its question

-- and at those of a question that undoes root_squash
record Undoes (d : Data) (w : Witness) : Type 0 where
  asks : Asks d (asked_by w)
  allowed : number_in (value_at (codes "allowed_by") d) ≡ w.grant

undoes : (grant : ℕ) (w : Witness) → Undoes (undone_value grant w) w
undoes grant w =
    record { asks = record { access = refl; others = record { path = refl; fs = refl; uid = refl; gid = refl; groups = refl; owner = refl; group = refl; mode = refl } }; allowed = refl }

one_undoing : (m n : ℕ) (v w : Witness) → IsAskable (asked_by v) → IsAskable (asked_by w) → undone_value m v ≡ undone_value n w → TellTheSame v w
one_undoing m n v w fit fits same =
    let p = undoes m v in
    let s : Undoes (undone_value m v) w = subst (λ (d : Data). Undoes d w) (sym same) (undoes n w) in
    let asked = one_question (asked_by v) (asked_by w) (undone_value m v) fit fits p.asks s.asks in
    (asked.0, asked.1, asked.2, asked.3, asked.4, sym p.allowed ∙ s.allowed)

-- ---- its reason

by_name : (key : Key) → key_at (name key) ≡ key
by_name FsName = refl
by_name Path = refl
by_name Uid = refl
by_name Gids = refl
by_name RootSquash = refl

one_key : (a b : Key) (p q : Data) → p ≡ q → p ≡ string (name a) → q ≡ string (name b) → a ≡ b
one_key a b p q same is other = sym (by_name a) ∙ ap (λ (d : Data). key_at (text_in d)) (sym is ∙ same ∙ other) ∙ by_name b

abbrev reason_of : ℕ → Unread → Data
reason_of grant why = value_at (codes "reason") (found_value grant (stands why))

has_kind : (grant : ℕ) (why : Unread) → kind_in (reason_of grant why) ≡ kind why
has_kind grant WhiteSpace = refl
has_kind grant AnyFileSystem = refl
has_kind grant (Order first second) = refl

one_reason : (m n : ℕ) (why other : Unread) → found_value m (stands why) ≡ found_value n (stands other) → why ≡ other
one_reason m n WhiteSpace WhiteSpace same = refl
one_reason m n AnyFileSystem AnyFileSystem same = refl
one_reason m n (Order a b) (Order c d) same =
    let first : a ≡ c = one_key a c _ _ (ap (value_at (codes "first")) same) refl refl in
    let second : b ≡ d = one_key b d _ _ (ap (value_at (codes "second")) same) refl refl in
    λ i. Order (first i) (second i)
one_reason m n why other same =
    absurd (let e : kind why ≡ kind other = sym (has_kind m why) ∙ ap (λ (d : Data). kind_in (value_at (codes "reason") d)) same ∙ has_kind n other in omega (arith, e))

-- ---- its releases, and what is odd

abbrev is_two : Data → Bool
is_two (array (item d (item e ds))) = true
is_two d = false

abbrev first_in : Data → ℕ
first_in (array (item d ds)) = number_in d
first_in d = 0

abbrev releases_in : Data → Releases
releases_in d = if is_two d then Today else (if first_in d == 16 then One Pacific else (if first_in d == 18 then One Reef else One Tentacle))

has_releases : (releases : Releases) → releases_in (numbers_value (releases_numbers releases)) ≡ releases
has_releases (One Pacific) = refl
has_releases (One Reef) = refl
has_releases (One Tentacle) = refl
has_releases Today = refl

one_releases : (a b : Releases) (p q : Data) → p ≡ q → p ≡ numbers_value (releases_numbers a) → q ≡ numbers_value (releases_numbers b) → a ≡ b
one_releases a b p q same is other = sym (has_releases a) ∙ ap releases_in (sym is ∙ same ∙ other) ∙ has_releases b

abbrev oddity_in : Data → Oddity
oddity_in d =
    let byte : ℕ = first_byte (text_in d) in
    if byte == 122 then ZeroUid else (if byte == 103 then GidsAlone else (if byte == 109 then CommandsMds else (if byte == 110 then NoNetwork else (if byte == 116 then TwoSlashes else LargeUid))))

has_oddity : (oddity : Oddity) → oddity_in (string (oddity_word oddity)) ≡ oddity
has_oddity ZeroUid = refl
has_oddity GidsAlone = refl
has_oddity CommandsMds = refl
has_oddity NoNetwork = refl
has_oddity TwoSlashes = refl
has_oddity LargeUid = refl

one_odd : (m n : ℕ) (a b : Releases) (o p : Oddity) → odd_value m a o ≡ odd_value n b p → (a ≡ b) × (o ≡ p)
one_odd m n a b o p same =
    (one_releases a b _ _ (ap (value_at (codes "releases")) same) refl refl, sym (has_oddity o) ∙ ap (λ (d : Data). oddity_in (value_at (codes "finding") d)) same ∙ has_oddity p)

-- and what stands at the keys of a question that clients refuse
record Refuses (d : Data) (w : Witness) : Type 0 where
  asks : Asks d (asked_by w)
  refused_by : number_in (value_at (codes "refused_by") d) ≡ w.grant

refuses : (grant : ℕ) (releases : Releases) (w : Witness) → Refuses (refused_value grant releases w) w
refuses grant releases w =
    record { asks = record { access = refl; others = record { path = refl; fs = refl; uid = refl; gid = refl; groups = refl; owner = refl; group = refl; mode = refl } }; refused_by = refl }

one_refusal : (m n : ℕ) (a b : Releases) (v w : Witness) → IsAskable (asked_by v) → IsAskable (asked_by w) → refused_value m a v ≡ refused_value n b w → (a ≡ b) × TellTheSame v w
one_refusal m n a b v w fit fits same =
    let p = refuses m a v in
    let s : Refuses (refused_value m a v) w = subst (λ (d : Data). Refuses d w) (sym same) (refuses n b w) in
    let asked = one_question (asked_by v) (asked_by w) (refused_value m a v) fit fits p.asks s.asks in
    (one_releases a b _ _ (ap (value_at (codes "releases")) same) refl refl, (asked.0, asked.1, asked.2, asked.3, asked.4, sym p.refused_by ∙ s.refused_by))

-- ---- one finding for an object

one_found : (m n : ℕ) (x y : Found) → IsAskableIf x → IsAskableIf y → found_value m x ≡ found_value n y → SameFound x y
one_found m n covered covered fit fits same = tt
one_found m n nothing nothing fit fits same = tt
one_found m n (undone v) (undone w) fit fits same = one_undoing m n v w fit fits same
one_found m n unread unread fit fits same = tt
one_found m n (stands why) (stands other) fit fits same = one_reason m n why other same
one_found m n (odd a o) (odd b p) fit fits same = one_odd m n a b o p same
one_found m n (refused a v) (refused b w) fit fits same = one_refusal m n a b v w fit fits same
one_found m n x y fit fits same =
    absurd (let e : kind_of x ≡ kind_of y = sym (tells m x).found ∙ ap (λ (d : Data). tag_in (value_at (codes "finding") d)) same ∙ (tells n y).found in omega (arith, e))

pub one_finding : (x y : ℕ × Found) → IsAskableIf x.1 → IsAskableIf y.1 → found_value x.0 x.1 ≡ found_value y.0 y.1 → SameOfGrant x y
one_finding x y fit fits same =
    (sym (tells x.0 x.1).grant ∙ ap (λ (d : Data). number_in (value_at (codes "grant") d)) same ∙ (tells y.0 y.1).grant, one_found x.0 y.0 x.1 y.1 fit fits same)

-- ---- an object for each

question : (grant : ℕ) (w : Option Witness) → if_some found_object grant undone w ≡ undone_line grant w
question grant None = refl
question grant (Some w) = refl

reason : (grant : ℕ) (why : Option Unread) → if_some found_object grant stands why ≡ stands_object grant why
reason grant None = refl
reason grant (Some why) = refl

pub each_has_one : (f : Finding) (why : Option Unread) → finding_objects f why ≡ flat_map found_object (all_found f why)
each_has_one f why =
    let front : List ℕ → List ℕ → List ℕ = λ undoing behind. finding_if f.is_redundant (codes "covered") f.grant ++ (finding_if f.allows_nothing (codes "allows-nothing") f.grant ++ (undoing ++ (finding_if (not f.has_ceph_text) (codes "unread-by-ceph-16") f.grant ++ behind))) in
    let parts : front (if_some found_object f.grant undone f.undoing) (if_some found_object f.grant stands why) ≡ finding_objects f why = λ i. front (question f.grant f.undoing i) (reason f.grant why i) in
    sym (in_order found_object f.grant f.is_redundant f.allows_nothing (not f.has_ceph_text) f.undoing why ∙ parts)

-- objects in a row are those of one list
pub one_list : (xs ys : List (ℕ × Found)) → All HasObject xs → All HasObject ys → flat_map found_object xs ≡ flat_map found_object ys → AllZip SameOfGrant xs ys
one_list [] [] p q same = tt
one_list [] (y ∷ ys) p q same = some_line (found_value y.0 y.1) (flat_map found_object ys) same
one_list (x ∷ xs) [] p q same = some_line (found_value x.0 x.1) (flat_map found_object xs) (sym same)
one_list (x ∷ xs) (y ∷ ys) p q same =
    let here = All-head HasObject x xs p in
    let there = All-head HasObject y ys q in
    let both = one_line (found_value x.0 x.1) (found_value y.0 y.1) (flat_map found_object xs) (flat_map found_object ys) here.1 there.1 same in
    (one_finding x y here.0 there.0 both.0, one_list xs ys (All-tail HasObject x xs p) (All-tail HasObject y ys q) both.1)

-- ---- who reads the objects

module _ (grant : ℕ) where
  abbrev of_grant : Found → ℕ × Found
  of_grant found = (grant, found)

  both : (xs ys : List Found) → All IsRead (map of_grant xs) → All IsRead (map of_grant ys) → All IsRead (map of_grant (xs ++ ys))
  both xs ys p q = subst (λ (things : List (ℕ × Found)). All IsRead things) (sym (map-append of_grant xs ys)) (All-append IsRead (map of_grant xs) (map of_grant ys) p q)

  one : (found : Found) → IsRead (grant, found) → All IsRead (map of_grant (found ∷ []))
  one found is = All-cons IsRead (grant, found) [] is (All-nil IsRead)

  by_test : (test : Bool) (found : Found) → (test ≡ true → IsRead (grant, found)) → All IsRead (map of_grant (found_if test found))
  by_test true found is = one found (is refl)
  by_test false found is = All-nil IsRead

  by_value : {A : Type 0} (makes : A → Found) (value : Option A) → IfSome value (λ a. IsRead (grant, makes a)) → All IsRead (map of_grant (found_by makes value))
  by_value makes None is = All-nil IsRead
  by_value makes (Some a) is = one (makes a) is

pub each_is_read : (f : Finding) (why : Option Unread) → (f.is_redundant ≡ true → IsRead (f.grant, covered)) → (f.allows_nothing ≡ true → IsRead (f.grant, nothing)) → IfSome f.undoing (λ w. IsRead (f.grant, undone w))
    → (not f.has_ceph_text ≡ true → IsRead (f.grant, unread)) → IfSome why (λ reason. IsRead (f.grant, stands reason)) → All IsRead (all_found f why)
each_is_read f why a b c d e =
    let no_text : Bool = not f.has_ceph_text in
    let last : List Found = found_by stands why in
    let fourth : List Found = found_if no_text unread ++ last in
    let third : List Found = found_by undone f.undoing ++ fourth in
    let second : List Found = found_if f.allows_nothing nothing ++ third in
    both f.grant (found_if f.is_redundant covered) second (by_test f.grant f.is_redundant covered a)
    (both f.grant (found_if f.allows_nothing nothing) third (by_test f.grant f.allows_nothing nothing b)
    (both f.grant (found_by undone f.undoing) fourth (by_value f.grant undone f.undoing c)
    (both f.grant (found_if no_text unread) last (by_test f.grant no_text unread d) (by_value f.grant stands why e))))
