-- The lines of what is found of grants tell one list of things.
use Rattle.std.proofs.Common.{◌≡◌, ℕ, Bool, true, false, Option, Some, None, List, [], ◌∷◌, ◌++◌, drop, map, refl, sym, ap, ◌∙◌, append_assoc, arith}
use Rattle.std.specs.Prelude.{codes, not, is_some, All, ◌==◌, if◌then◌else◌}
use Rattle.std.specs.Fmt.{decimal}
use Rattle.std.specs.List.{AllZip, flat_map}
use Rattle.std.proofs.lemmas.List.{append-nil, append_cancel_left, map-append}
use Rattle.std.proofs.lemmas.List.Concat.{flat_map-append}
use Rattle.std.proofs.lemmas.List.Elements.{All-head, All-tail}
use Rattle.policy_analysis.specs.declared.finding.Finding.{Finding}
use Rattle.policy_analysis.specs.declared.oddity.Oddity.{Oddity}
use Rattle.policy_analysis.specs.declared.oddity.Oddity.TheVariants.{CommandsMds, GidsAlone, LargeUid, NoNetwork, TwoSlashes, ZeroUid}
use Rattle.policy_analysis.specs.declared.witness.Witness.{Witness}
use Rattle.capspec.specs.declared.items.Key.{Key}
use Rattle.capspec.specs.declared.items.Key.TheVariants.{FsName, Gids, Path, RootSquash, Uid}
use Rattle.release_rules.specs.declared.release.Release.TheVariants.{Pacific, Reef, Tentacle}
use Rattle.policy_analysis.specs.declared.unread.Unread.{Unread}
use Rattle.policy_analysis.specs.declared.unread.Unread.TheVariants.{AnyFileSystem, Order, WhiteSpace}
use Rattle.capspec.specs.Items.{key_name as name}
use Rattle.texts.specs.Comparing.{found_line, witness_text}
use Rattle.policy_analysis.specs.declared.releases.Releases.{Releases}
use Rattle.policy_analysis.specs.declared.releases.Releases.TheVariants.{One, Today}
use Rattle.texts.specs.Found.{Found, HasLine, IsReportedIf, SameFound, SameOfGrant, all_found, found_by, found_if, line_of, thing_line}
use Rattle.texts.specs.Found.Found.{covered, nothing, odd, refused, stands, undone, unread}
use Rattle.texts.specs.Linting.{covered_text, finding_lines, nothing_text, oddity_text, reported_if, stands_line, unread_text}
use Rattle.policy_analysis.specs.Releases.{releases_text}
use Rattle.texts.proofs.Answered.{number_and}
use Rattle.texts.proofs.Compared.{one_witness}
use Rattle.texts.proofs.Quoted.{clash, first_byte}

-- ---- a line for each thing

module _ (line : ℕ × Found → List ℕ) (grant : ℕ) where
  abbrev lines_of : List Found → List ℕ
  lines_of things = flat_map line (map (λ found. (grant, found)) things)

  both : (xs ys : List Found) (s t : List ℕ) → lines_of xs ≡ s → lines_of ys ≡ t → lines_of (xs ++ ys) ≡ s ++ t
  both xs ys s t p q =
      ap (flat_map line) (map-append (λ found. (grant, found)) xs ys) ∙ flat_map-append line (map (λ found. (grant, found)) xs) (map (λ found. (grant, found)) ys)
      ∙ ap (λ (r : List ℕ). r ++ lines_of ys) p ∙ ap (λ (r : List ℕ). s ++ r) q

  by_test : (test : Bool) (found : Found) → lines_of (found_if test found) ≡ (if test then line (grant, found) else [])
  by_test true found = append-nil (line (grant, found))
  by_test false found = refl

  abbrev pub if_some : {A : Type 0} → (A → Found) → Option A → List ℕ
  if_some makes None = []
  if_some makes (Some a) = line (grant, makes a)

  by_value : {A : Type 0} (makes : A → Found) (value : Option A) → lines_of (found_by makes value) ≡ if_some makes value
  by_value makes None = refl
  by_value makes (Some a) = append-nil (line (grant, makes a))

  -- those of all that is found of a grant stand one after the other
  pub in_order : (a b c : Bool) (w : Option Witness) (why : Option Unread)
      → lines_of (found_if a covered ++ (found_if b nothing ++ (found_by undone w ++ (found_if c unread ++ found_by stands why))))
      ≡ (if a then line (grant, covered) else []) ++ ((if b then line (grant, nothing) else []) ++ (if_some undone w ++ ((if c then line (grant, unread) else []) ++ if_some stands why)))
  in_order a b c w why =
      both (found_if a covered) (found_if b nothing ++ (found_by undone w ++ (found_if c unread ++ found_by stands why))) _ _ (by_test a covered)
      (both (found_if b nothing) (found_by undone w ++ (found_if c unread ++ found_by stands why)) _ _ (by_test b nothing)
      (both (found_by undone w) (found_if c unread ++ found_by stands why) _ _ (by_value undone w)
      (both (found_if c unread) (found_by stands why) _ _ (by_test c unread) (by_value stands why))))

question : (grant : ℕ) (w : Option Witness) (rest : List ℕ) → if_some thing_line grant undone w ++ rest ≡ reported_if (is_some w) grant (codes ": ") ++ (found_line (codes "root_squash undone, ") w ++ rest)
question grant None rest = refl
question grant (Some w) rest = append_assoc (reported_if true grant (codes ": ")) (found_line (codes "root_squash undone, ") (Some w)) rest

reason_line : (grant : ℕ) (why : Option Unread) → if_some thing_line grant stands why ≡ stands_line grant why
reason_line grant None = refl
reason_line grant (Some why) = refl

pub all_lines : (f : Finding) (why : Option Unread) → flat_map thing_line (all_found f why) ≡ finding_lines f why
all_lines f why =
    let front : List ℕ → List ℕ = λ rest. reported_if f.is_redundant f.grant covered_text ++ (reported_if f.allows_nothing f.grant nothing_text ++ rest) in
    let no_text : List ℕ = reported_if (not f.has_ceph_text) f.grant unread_text in
    in_order thing_line f.grant f.is_redundant f.allows_nothing (not f.has_ceph_text) f.undoing why
    ∙ ap front (question f.grant f.undoing (no_text ++ if_some thing_line f.grant stands why))
    ∙ ap (λ (rest : List ℕ). front (reported_if (is_some f.undoing) f.grant (codes ": ") ++ (found_line (codes "root_squash undone, ") f.undoing ++ (no_text ++ rest)))) (reason_line f.grant why)

-- ---- how a line begins

-- behind the number
abbrev reason : Unread → List ℕ
reason WhiteSpace = codes "only spaces round the separator before it\n"
reason AnyFileSystem = codes "no * for fsname\n"
reason (Order first second) = name first ++ (codes " before " ++ (name second ++ codes "\n"))

abbrev said : Found → List ℕ
said covered = codes "covered by the others\n"
said nothing = codes "allows nothing, as no inode has . or .. in its path\n"
said (undone w) = codes "root_squash undone, " ++ (witness_text w ++ codes "\n")
said unread = codes "not read by Ceph 16, which takes no uid beside fsname or root_squash\n"
said (stands why) = codes "not read by Ceph 16 as it stands, which takes " ++ reason why
said (odd releases oddity) = releases_text releases ++ oddity_text oddity
said (refused releases w) = releases_text releases ++ found_line (codes ": refused by clients, ") (Some w)

abbrev behind_number : ℕ → List ℕ → List ℕ
behind_number grant more = codes "grant " ++ (decimal grant ++ 58 ∷ 32 ∷ more)

one_text : (grant : ℕ) (text s : List ℕ) → reported_if true grant text ++ s ≡ codes "grant " ++ (decimal grant ++ (text ++ s))
one_text grant text s = ap (λ (r : List ℕ). codes "grant " ++ r) (append_assoc (decimal grant) text s)

two_texts : (grant : ℕ) (text more s : List ℕ) → (reported_if true grant text ++ more) ++ s ≡ codes "grant " ++ (decimal grant ++ (text ++ (more ++ s)))
two_texts grant text more s = append_assoc (reported_if true grant text) more s ∙ one_text grant text (more ++ s)

laid_out : (grant : ℕ) (found : Found) (s : List ℕ) → line_of grant found ++ s ≡ behind_number grant (said found ++ s)
laid_out grant covered s = one_text grant covered_text s
laid_out grant nothing s = one_text grant nothing_text s
laid_out grant (undone w) s = two_texts grant (codes ": ") (found_line (codes "root_squash undone, ") (Some w)) s
laid_out grant unread s = one_text grant unread_text s
laid_out grant (stands WhiteSpace) s = one_text grant (codes ": not read by Ceph 16 as it stands, which takes only spaces round the separator before it\n") s
laid_out grant (stands AnyFileSystem) s = one_text grant (codes ": not read by Ceph 16 as it stands, which takes no * for fsname\n") s
laid_out grant (stands (Order first second)) s =
    two_texts grant (codes ": not read by Ceph 16 as it stands, which takes ") (name first ++ (codes " before " ++ (name second ++ codes "\n"))) s
laid_out grant (odd releases oddity) s = one_text grant (codes ": " ++ (releases_text releases ++ oddity_text oddity)) s
laid_out grant (refused releases w) s = one_text grant (codes ": " ++ (releases_text releases ++ found_line (codes ": refused by clients, ") (Some w))) s

pub begins : (x : ℕ × Found) (s : List ℕ) → first_byte (thing_line x ++ s) ≡ 103
begins x s = ap first_byte (laid_out x.0 x.1 s)

-- ---- why a grant is not read as it stands

abbrev pub key_at : List ℕ → Key
key_at text =
    let byte : ℕ = first_byte text in
    if byte == 102 then FsName else (if byte == 112 then Path else (if byte == 117 then Uid else (if byte == 103 then Gids else RootSquash)))

has_key : (key : Key) (s : List ℕ) → key_at (name key ++ s) ≡ key
has_key FsName s = refl
has_key Path s = refl
has_key Uid s = refl
has_key Gids s = refl
has_key RootSquash s = refl

one_key : (a b : Key) (s t : List ℕ) → name a ++ s ≡ name b ++ t → (a ≡ b) × (s ≡ t)
one_key a b s t same =
    let key : a ≡ b = sym (has_key a s) ∙ ap key_at same ∙ has_key b t in
    (key, append_cancel_left (name a) s t (same ∙ ap (λ (k : Key). name k ++ t) (sym key)))

-- reasons of three kinds
abbrev pub kind : Unread → ℕ
kind WhiteSpace = 0
kind AnyFileSystem = 1
kind (Order first second) = 2

abbrev kind_at : List ℕ → ℕ
kind_at text = if first_byte text == 111 then 0 else (if first_byte text == 110 then 1 else 2)

has_kind : (why : Unread) (s : List ℕ) → kind_at (reason why ++ s) ≡ kind why
has_kind WhiteSpace s = refl
has_kind AnyFileSystem s = refl
has_kind (Order FsName second) s = refl
has_kind (Order Path second) s = refl
has_kind (Order Uid second) s = refl
has_kind (Order Gids second) s = refl
has_kind (Order RootSquash second) s = refl

in_order_of : (a b : Key) (s : List ℕ) → reason (Order a b) ++ s ≡ name a ++ (codes " before " ++ (name b ++ 10 ∷ s))
in_order_of a b s = append_assoc (name a) (codes " before " ++ (name b ++ codes "\n")) s ∙ ap (λ (r : List ℕ). name a ++ (codes " before " ++ r)) (append_assoc (name b) (codes "\n") s)

one_reason : (why other : Unread) (s t : List ℕ) → reason why ++ s ≡ reason other ++ t → (why ≡ other) × (s ≡ t)
one_reason WhiteSpace WhiteSpace s t same = (refl, append_cancel_left (reason WhiteSpace) s t same)
one_reason AnyFileSystem AnyFileSystem s t same = (refl, append_cancel_left (reason AnyFileSystem) s t same)
one_reason (Order a b) (Order c d) s t same =
    let front = one_key a c (codes " before " ++ (name b ++ 10 ∷ s)) (codes " before " ++ (name d ++ 10 ∷ t)) (sym (in_order_of a b s) ∙ same ∙ in_order_of c d t) in
    let behind = one_key b d (10 ∷ s) (10 ∷ t) (append_cancel_left (codes " before ") (name b ++ 10 ∷ s) (name d ++ 10 ∷ t) front.1) in
    let first : a ≡ c = front.0 in
    let second : b ≡ d = behind.0 in
    (λ i. Order (first i) (second i), append_cancel_left (codes "\n") s t behind.1)
one_reason why other s t same = absurd (let e : kind why ≡ kind other = sym (has_kind why s) ∙ ap kind_at same ∙ has_kind other t in omega (arith, e))

-- ---- by the rules of releases

-- behind `Ceph ` the last digit tells, or what follows it
abbrev releases_at : List ℕ → Releases
releases_at text =
    let digit : ℕ = first_byte (drop 6 text) in
    if digit == 54 then One Pacific else (if digit == 48 then One Tentacle else (if first_byte (drop 7 text) == 58 then One Reef else Today))

has_releases : (releases : Releases) (s : List ℕ) → releases_at (releases_text releases ++ 58 ∷ s) ≡ releases
has_releases (One Pacific) s = refl
has_releases (One Reef) s = refl
has_releases (One Tentacle) s = refl
has_releases Today s = refl

one_releases : (a b : Releases) (s t : List ℕ) → releases_text a ++ 58 ∷ s ≡ releases_text b ++ 58 ∷ t → (a ≡ b) × (s ≡ t)
one_releases a b s t same =
    let releases : a ≡ b = sym (has_releases a s) ∙ ap releases_at same ∙ has_releases b t in
    (releases, append_cancel_left (releases_text a ++ 58 ∷ []) s t (append_assoc (releases_text a) (58 ∷ []) s ∙ same ∙ ap (λ (r : Releases). releases_text r ++ 58 ∷ t) (sym releases) ∙ sym (append_assoc (releases_text a) (58 ∷ []) t)))

-- what is said behind the releases, without the mark and the space between
abbrev odd_text : Oddity → List ℕ
odd_text oddity = drop 2 (oddity_text oddity)

odd_laid_out : (releases : Releases) (oddity : Oddity) (s : List ℕ) → (releases_text releases ++ oddity_text oddity) ++ s ≡ releases_text releases ++ 58 ∷ 32 ∷ (odd_text oddity ++ s)
odd_laid_out releases ZeroUid s = append_assoc (releases_text releases) (oddity_text ZeroUid) s
odd_laid_out releases GidsAlone s = append_assoc (releases_text releases) (oddity_text GidsAlone) s
odd_laid_out releases CommandsMds s = append_assoc (releases_text releases) (oddity_text CommandsMds) s
odd_laid_out releases NoNetwork s = append_assoc (releases_text releases) (oddity_text NoNetwork) s
odd_laid_out releases TwoSlashes s = append_assoc (releases_text releases) (oddity_text TwoSlashes) s
odd_laid_out releases LargeUid s = append_assoc (releases_text releases) (oddity_text LargeUid) s

refused_laid_out : (releases : Releases) (w : Witness) (s : List ℕ)
    → (releases_text releases ++ found_line (codes ": refused by clients, ") (Some w)) ++ s ≡ releases_text releases ++ 58 ∷ 32 ∷ (codes "refused by clients, " ++ ((witness_text w ++ codes "\n") ++ s))
refused_laid_out releases w s =
    append_assoc (releases_text releases) (found_line (codes ": refused by clients, ") (Some w)) s
    ∙ ap (λ (r : List ℕ). releases_text releases ++ r) (append_assoc (codes ": refused by clients, ") (witness_text w ++ codes "\n") s)

abbrev oddity_at : List ℕ → Oddity
oddity_at text =
    let byte : ℕ = first_byte text in
    if byte == 117 then ZeroUid else (if byte == 103 then GidsAlone else (if byte == 99 then CommandsMds else (if byte == 110 then NoNetwork else (if byte == 116 then TwoSlashes else LargeUid))))

has_oddity : (oddity : Oddity) (s : List ℕ) → oddity_at (odd_text oddity ++ s) ≡ oddity
has_oddity ZeroUid s = refl
has_oddity GidsAlone s = refl
has_oddity CommandsMds s = refl
has_oddity NoNetwork s = refl
has_oddity TwoSlashes s = refl
has_oddity LargeUid s = refl

one_oddity : (a b : Oddity) (s t : List ℕ) → odd_text a ++ s ≡ odd_text b ++ t → (a ≡ b) × (s ≡ t)
one_oddity a b s t same =
    let oddity : a ≡ b = sym (has_oddity a s) ∙ ap oddity_at same ∙ has_oddity b t in
    (oddity, append_cancel_left (odd_text a) s t (same ∙ ap (λ (o : Oddity). odd_text o ++ t) (sym oddity)))

-- none begins as what clients refuse does
no_refusal : (oddity : Oddity) (s t : List ℕ) → odd_text oddity ++ s ≡ codes "refused by clients, " ++ t → ⊥
no_refusal ZeroUid s t same = clash 114 117 (omega arith) (sym (ap first_byte same))
no_refusal GidsAlone s t same = clash 103 114 (omega arith) (ap first_byte same)
no_refusal CommandsMds s t same = clash 99 114 (omega arith) (ap first_byte same)
no_refusal NoNetwork s t same = clash 110 114 (omega arith) (ap first_byte same)
no_refusal TwoSlashes s t same = clash 114 116 (omega arith) (sym (ap first_byte same))
no_refusal LargeUid s t same = clash 108 114 (omega arith) (ap first_byte same)

-- behind the same releases
behind_releases : (a b : Releases) (x y s t more less : List ℕ) → x ++ s ≡ releases_text a ++ 58 ∷ 32 ∷ more → y ++ t ≡ releases_text b ++ 58 ∷ 32 ∷ less → x ++ s ≡ y ++ t → (a ≡ b) × (more ≡ less)
behind_releases a b x y s t more less front also same =
    let both = one_releases a b (32 ∷ more) (32 ∷ less) (sym front ∙ same ∙ also) in
    (both.0, append_cancel_left (32 ∷ []) more less both.1)

-- ---- one thing for a line

-- what is told by the rules of releases has one tag in lines
abbrev pub tag : Found → ℕ
tag covered = 0
tag nothing = 1
tag (undone w) = 2
tag unread = 3
tag (stands why) = 4
tag (odd releases oddity) = 5
tag (refused releases w) = 5

abbrev tag_at : List ℕ → ℕ
tag_at text =
    let byte : ℕ = first_byte text in
    if byte == 99 then 0 else (if byte == 97 then 1 else (if byte == 114 then 2 else (if byte == 67 then 5 else (if first_byte (drop 19 text) == 44 then 3 else 4))))

has_tag : (found : Found) (s : List ℕ) → tag_at (said found ++ s) ≡ tag found
has_tag covered s = refl
has_tag nothing s = refl
has_tag (undone w) s = refl
has_tag unread s = refl
has_tag (stands why) s = refl
has_tag (odd (One Pacific) oddity) s = refl
has_tag (odd (One Reef) oddity) s = refl
has_tag (odd (One Tentacle) oddity) s = refl
has_tag (odd Today oddity) s = refl
has_tag (refused (One Pacific) w) s = refl
has_tag (refused (One Reef) w) s = refl
has_tag (refused (One Tentacle) w) s = refl
has_tag (refused Today w) s = refl

one_said : (x y : Found) (s t : List ℕ) → IsReportedIf x → IsReportedIf y → said x ++ s ≡ said y ++ t → SameFound x y × (s ≡ t)
one_said covered covered s t reported too same = (tt, append_cancel_left (said covered) s t same)
one_said nothing nothing s t reported too same = (tt, append_cancel_left (said nothing) s t same)
one_said (undone v) (undone w) s t reported too same =
    one_witness v w s t reported too (append_cancel_left (codes "root_squash undone, ") ((witness_text v ++ codes "\n") ++ s) ((witness_text w ++ codes "\n") ++ t) same)
one_said unread unread s t reported too same = (tt, append_cancel_left (said unread) s t same)
one_said (stands why) (stands other) s t reported too same =
    one_reason why other s t (append_cancel_left (codes "not read by Ceph 16 as it stands, which takes ") (reason why ++ s) (reason other ++ t) same)
one_said (odd a o) (odd b p) s t reported too same =
    let both = behind_releases a b (said (odd a o)) (said (odd b p)) s t (odd_text o ++ s) (odd_text p ++ t) (odd_laid_out a o s) (odd_laid_out b p t) same in
    let more = one_oddity o p s t both.1 in
    ((both.0, more.0), more.1)
one_said (refused a v) (refused b w) s t reported too same =
    let of_one : List ℕ = (witness_text v ++ codes "\n") ++ s in
    let of_other : List ℕ = (witness_text w ++ codes "\n") ++ t in
    let both = behind_releases a b (said (refused a v)) (said (refused b w)) s t (codes "refused by clients, " ++ of_one) (codes "refused by clients, " ++ of_other) (refused_laid_out a v s) (refused_laid_out b w t) same in
    let more = one_witness v w s t reported too (append_cancel_left (codes "refused by clients, ") of_one of_other both.1) in
    ((both.0, more.0), more.1)
one_said (odd a o) (refused b w) s t reported too same =
    let of_other : List ℕ = (witness_text w ++ codes "\n") ++ t in
    absurd (no_refusal o s of_other (behind_releases a b (said (odd a o)) (said (refused b w)) s t (odd_text o ++ s) (codes "refused by clients, " ++ of_other) (odd_laid_out a o s) (refused_laid_out b w t) same).1)
one_said (refused a v) (odd b p) s t reported too same =
    let of_one : List ℕ = (witness_text v ++ codes "\n") ++ s in
    absurd (no_refusal p t of_one (sym (behind_releases a b (said (refused a v)) (said (odd b p)) s t (codes "refused by clients, " ++ of_one) (odd_text p ++ t) (refused_laid_out a v s) (odd_laid_out b p t) same).1))
one_said x y s t reported too same = absurd (let e : tag x ≡ tag y = sym (has_tag x s) ∙ ap tag_at same ∙ has_tag y t in omega (arith, e))

pub one_thing : (x y : ℕ × Found) (s t : List ℕ) → HasLine x → HasLine y → thing_line x ++ s ≡ thing_line y ++ t → SameOfGrant x y × (s ≡ t)
one_thing x y s t reported too same =
    let grant = number_and 58 32 x.0 y.0 (said x.1 ++ s) (said y.1 ++ t) refl refl (omega (arith, reported.0)) (omega (arith, too.0))
    (append_cancel_left (codes "grant ") _ _ (sym (laid_out x.0 x.1 s) ∙ same ∙ laid_out y.0 y.1 t)) in
    let found = one_said x.1 y.1 s t reported.1 too.1 grant.1 in
    ((grant.0, found.0), found.1)

pub one_list : (xs ys : List (ℕ × Found)) → All HasLine xs → All HasLine ys → flat_map thing_line xs ≡ flat_map thing_line ys → AllZip SameOfGrant xs ys
one_list [] [] reported too same = tt
one_list [] (y ∷ ys) reported too same = clash 0 103 (omega arith) (ap first_byte same ∙ begins y (flat_map thing_line ys))
one_list (x ∷ xs) [] reported too same = clash 0 103 (omega arith) (sym (ap first_byte same) ∙ begins x (flat_map thing_line xs))
one_list (x ∷ xs) (y ∷ ys) reported too same =
    let both = one_thing x y (flat_map thing_line xs) (flat_map thing_line ys) (All-head HasLine x xs reported) (All-head HasLine y ys too) same in
    (both.0, one_list xs ys (All-tail HasLine x xs reported) (All-tail HasLine y ys too) both.1)

pub one_finding : (f g : Finding) (why other : Option Unread) → All HasLine (all_found f why) → All HasLine (all_found g other) → finding_lines f why ≡ finding_lines g other
    → AllZip SameOfGrant (all_found f why) (all_found g other)
one_finding f g why other reported too same = one_list (all_found f why) (all_found g other) reported too (all_lines f why ∙ same ∙ sym (all_lines g other))
