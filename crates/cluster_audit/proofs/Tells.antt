-- Two lines of an audit that are equal tell the same, and so do two texts, line by line.
use Rattle.std.proofs.Common.{◌≡◌, ℕ, ◌<◌, ◌^◌, Bool, true, false, Option, Some, None, List, [], ◌∷◌, ◌++◌, ◌+◌, drop, suc, length, ◌==◌, refl, sym, ap, ◌∙◌, append_assoc, arith}
use Rattle.std.specs.Prelude.{All, codes, if◌then◌else◌}
use Rattle.std.specs.Fmt.{decimal}
use Rattle.std.specs.List.{flat_map}
use Rattle.std.proofs.lemmas.Bool.{eqb-false, ne_eqb}
use Rattle.std.proofs.lemmas.List.{append_cancel_left}
use Rattle.std.proofs.lemmas.List.Elements.{All-head, All-tail}
use Rattle.capbits.specs.Caps.{Caps}
use Rattle.capbits.specs.Sets.{minus}
use Rattle.capbits.specs.Text.{text_of}
use Rattle.capgrant.specs.Access.{access_word}
use Rattle.capspec.specs.declared.fault.SpecFaultKind.{SpecFaultKind}
use Rattle.capspec.specs.declared.fault.SpecFaultKind.TheVariants as kinds
use Rattle.cluster_audit.specs.declared.findings.Finding.{Finding}
use Rattle.cluster_audit.specs.declared.conflict.Conflict.{Conflict}
use Rattle.texts.specs.Explaining.{path_text}
use Rattle.texts.specs.Mds.{reason_text, said, said_line, said_word}
use Rattle.texts.specs.Quoting.{quoted}
use Rattle.release_rules.specs.declared.beside.Otherwise.{Otherwise}
use Rattle.release_rules.specs.declared.release.Release.{Release}
use Rattle.release_rules.specs.declared.release.Release.TheVariants.{Pacific, Reef, Tentacle}
use Rattle.release_rules.specs.Releases.{version_of}
use Rattle.texts.specs.Standing.{fault_word, unread_line}
use Rattle.texts.proofs.Beside.{Named, bare_text}
use Rattle.texts.proofs.Beside.{one_line as one_said_line}
use Rattle.texts.proofs.Beside.Named.{each, eighteen, first_two, last_two, sixteen, twenty}
use Rattle.texts.proofs.Clients.{one_fault}
use Rattle.texts.proofs.Quoted.{bare, before_a_line_feed, before_a_space, before_word, clash, first_byte}
use Rattle.cluster_audit.specs.declared.grants_by.Unreadable.{Unreadable}
use Rattle.cluster_audit.specs.declared.grants_by.Unreadable.TheVariants as unreadable
use Rattle.cluster_audit.specs.declared.notes.Detail.TheVariants.{Each, Groups}
use Rattle.cluster_audit.specs.declared.unjudged.Unknown.{Unknown}
use Rattle.cluster_audit.specs.declared.unjudged.Unknown.TheVariants.{Address, Spelling}
use Rattle.cluster_audit.specs.declared.summary.Counts.{Counts}
use Rattle.cluster_audit.specs.Lines.{holder_text, on_inode, place_text, revoked_text, unjudged_text, unknown_text, who_text, why_text}
use Rattle.cluster_audit.specs.Reported.{AllTellTheSame, AreCounts, HasNumbers, IsOneClient, IsOneInode, Line, Releases, TellTheSame, access_of, line_text, releases_text}
use Rattle.cluster_audit.specs.Reported as reported
use Rattle.cluster_audit.proofs.Denials.{one_why}
use Rattle.cluster_audit.proofs.Words.{before_why, is_digit, no_number, number, one_caps, one_revoked}
use Rattle.cluster_audit.proofs.Spaces.{behind, past_quoted}
use Rattle.cluster_audit.proofs.Openings.{kind_of, none, of_conflict_text, of_group, of_held, of_nothing, of_otherwise, of_otherwise_group, of_pathless, of_renamed, of_summary, of_unknown, of_unlinked, of_unlisted}
use Rattle.cluster_audit.proofs.Openings.{of_unnamed, of_unread, of_unread_there, on_number, on_path, opening, opening_path, place_is, plain_fault}

-- ---- a line and what stands behind it, part by part

abbrev beside : Conflict → List ℕ → List ℕ
beside c s = codes " beside " ++ (text_of c.other.caps ++ (codes " of " ++ s))

abbrev holds : Conflict → List ℕ → List ℕ
holds c s = codes "holds " ++ (text_of c.one.caps ++ beside c s)

abbrev from_conflicts : Counts → List ℕ → List ℕ
from_conflicts n s = codes ", conflicts " ++ (decimal n.conflicts ++ (codes ", not judged " ++ (decimal n.not_judged ++ 10 ∷ s)))

abbrev from_beyond : Counts → List ℕ → List ℕ
from_beyond n s = codes ", held beyond " ++ (decimal n.held_beyond ++ from_conflicts n s)

abbrev from_sessions : Counts → List ℕ → List ℕ
from_sessions n s = codes ", sessions " ++ (decimal n.sessions ++ from_beyond n s)

abbrev from_entries : Counts → List ℕ → List ℕ
from_entries n s = codes ", entries " ++ (decimal n.entries ++ from_sessions n s)

abbrev from_why : Finding → Bool → List ℕ → List ℕ
from_why f u s = why_text f.missing f.denial ++ (unjudged_text u ++ 10 ∷ s)

abbrev from_beyond_caps : Caps → Finding → Bool → List ℕ → List ℕ
from_beyond_caps x f u s = revoked_text (minus f.caps x) ++ (codes ": " ++ from_why f u s)

-- why grants can't be read, and how many bytes of their text stand before that
abbrev wrong_word : Unreadable → List ℕ
wrong_word (unreadable.Own fault) = fault_word fault.kind
wrong_word (unreadable.There release at) = codes "not read by Ceph " ++ version_of release

abbrev wrong_at : Unreadable → ℕ
wrong_at (unreadable.Own fault) = fault.at
wrong_at (unreadable.There release at) = at

abbrev from_release : Releases → Otherwise → List ℕ → List ℕ
from_release r o s = codes "the MDS of Ceph " ++ (releases_text r ++ (said (Some o) ++ s))

abbrev from_access : Bool → Releases → Otherwise → List ℕ → List ℕ
from_access a r o s = access_word (access_of a) ++ (codes ": " ++ from_release r o s)

abbrev laid : Line → List ℕ → List ℕ
laid (reported.held k p c n i x f u) s = place_text p c n ++ (codes " holds " ++ (text_of i ++ (codes ", may not " ++ (text_of f.caps ++ from_beyond_caps x f u s))))
laid (reported.group c f n) s = why_text f.missing f.denial ++ 32 ∷ (quoted c ++ (codes ": " ++ (decimal n ++ 10 ∷ s)))
laid (reported.conflict m p a b c) s = on_inode Each m p ++ (holder_text Each c.one.client a ++ 32 ∷ holds c (holder_text Each c.other.client b ++ 10 ∷ s))
laid (reported.conflict_group a b c n) s = holder_text Groups c.one.client a ++ 32 ∷ holds c (holder_text Groups c.other.client b ++ (codes ": " ++ (decimal n ++ 10 ∷ s)))
laid (reported.renamed n c a) s = codes "session " ++ (decimal n ++ (codes ": " ++ (quoted c ++ (codes " calls itself " ++ (quoted a ++ 10 ∷ s)))))
laid (reported.unlinked n p) s = codes "inode " ++ (decimal n ++ (codes ": unlinked, judged as " ++ (quoted (path_text p) ++ 10 ∷ s)))
laid (reported.unnamed n) s = codes "client " ++ (decimal n ++ (codes ": no session names it\n" ++ s))
laid (reported.unlisted c) s = quoted c ++ (codes ": no entry in the auth list\n" ++ s)
laid (reported.unread c w) s = quoted c ++ (codes ": grants: " ++ (wrong_word w ++ (codes " at " ++ (decimal (wrong_at w) ++ 10 ∷ s))))
laid (reported.unknown w k p c n) s = place_text p c n ++ (codes " holds what is " ++ (unknown_text w ++ s))
laid (reported.pathless k c n i) s = codes "inode " ++ (decimal k ++ (codes ": no path: " ++ (who_text c n ++ (codes " holds " ++ (quoted i ++ 10 ∷ s)))))
laid (reported.otherwise p c n a r o) s = place_text p c n ++ 32 ∷ from_access a r o s
laid (reported.otherwise_group c a r o) s = quoted c ++ 32 ∷ from_access a r o s
laid reported.nothing s = codes "nothing found\n" ++ s
laid (reported.summary n) s = codes "inodes " ++ (decimal n.inodes ++ from_entries n s)

held_apart : (p i m r w e s : List ℕ) → (p ++ ((codes " holds " ++ (i ++ (codes ", may not " ++ (m ++ (r ++ (codes ": " ++ w)))))) ++ (e ++ codes "\n"))) ++ s ≡ p ++ (codes " holds " ++ (i ++ (codes ", may not " ++ (m ++ (r ++ (codes ": " ++ (w ++ (e ++ 10 ∷ s))))))))
held_apart p i m r w e s = simp append_assoc

group_apart : (w c n s : List ℕ) → ((((w ++ (codes " " ++ c)) ++ codes ": ") ++ n) ++ codes "\n") ++ s ≡ w ++ 32 ∷ (c ++ (codes ": " ++ (n ++ 10 ∷ s)))
group_apart w c n s = simp append_assoc

conflict_apart : (p h i j k s : List ℕ) → (p ++ ((h ++ ((codes " holds " ++ (i ++ (codes " beside " ++ (j ++ codes " of ")))) ++ k)) ++ codes "\n")) ++ s ≡ p ++ (h ++ (codes " holds " ++ (i ++ (codes " beside " ++ (j ++ (codes " of " ++ (k ++ 10 ∷ s)))))))
conflict_apart p h i j k s = simp append_assoc

conflict_groups_apart : (h i j k n s : List ℕ) → ((((h ++ ((codes " holds " ++ (i ++ (codes " beside " ++ (j ++ codes " of ")))) ++ k)) ++ codes ": ") ++ n) ++ codes "\n") ++ s
    ≡ h ++ (codes " holds " ++ (i ++ (codes " beside " ++ (j ++ (codes " of " ++ (k ++ (codes ": " ++ (n ++ 10 ∷ s))))))))
conflict_groups_apart h i j k n s = simp append_assoc

renamed_apart : (n c a s : List ℕ) → (codes "session " ++ (n ++ (codes ": " ++ (c ++ (codes " calls itself " ++ (a ++ codes "\n")))))) ++ s ≡ codes "session " ++ (n ++ (codes ": " ++ (c ++ (codes " calls itself " ++ (a ++ 10 ∷ s)))))
renamed_apart n c a s = simp append_assoc

unlinked_apart : (n p s : List ℕ) → (codes "inode " ++ (n ++ (codes ": unlinked, judged as " ++ (p ++ codes "\n")))) ++ s ≡ codes "inode " ++ (n ++ (codes ": unlinked, judged as " ++ (p ++ 10 ∷ s)))
unlinked_apart n p s = simp append_assoc

unnamed_apart : (n s : List ℕ) → (codes "client " ++ (n ++ codes ": no session names it\n")) ++ s ≡ codes "client " ++ (n ++ (codes ": no session names it\n" ++ s))
unnamed_apart n s = simp append_assoc

unread_apart : (c k n s : List ℕ) → (c ++ (codes ": grants: " ++ (k ++ (codes " at " ++ (n ++ codes "\n"))))) ++ s ≡ c ++ (codes ": grants: " ++ (k ++ (codes " at " ++ (n ++ 10 ∷ s))))
unread_apart c k n s = simp append_assoc

not_read_apart : (c v n s : List ℕ) → (c ++ (codes ": grants: not read by Ceph " ++ (v ++ (codes " at " ++ (n ++ codes "\n"))))) ++ s ≡ c ++ (codes ": grants: " ++ ((codes "not read by Ceph " ++ v) ++ (codes " at " ++ (n ++ 10 ∷ s))))
not_read_apart c v n s = simp append_assoc

unknown_apart : (p w s : List ℕ) → (p ++ (codes " holds what is " ++ w)) ++ s ≡ p ++ (codes " holds what is " ++ (w ++ s))
unknown_apart p w s = simp append_assoc

pathless_apart : (k w i s : List ℕ) → (codes "inode " ++ (k ++ (codes ": no path: " ++ (w ++ (codes " holds " ++ (i ++ codes "\n")))))) ++ s ≡ codes "inode " ++ (k ++ (codes ": no path: " ++ (w ++ (codes " holds " ++ (i ++ 10 ∷ s)))))
pathless_apart k w i s = simp append_assoc

said_apart : (h a r w s : List ℕ) → ((h ++ (codes " " ++ (a ++ codes ": "))) ++ (codes "the MDS of Ceph " ++ (r ++ w))) ++ s ≡ h ++ 32 ∷ (a ++ (codes ": " ++ (codes "the MDS of Ceph " ++ (r ++ (w ++ s)))))
said_apart h a r w s = simp append_assoc

-- something is said of them
some_text : (byte : ℕ) (more text : List ℕ) → (if length (byte ∷ more) == 0 then [] else text) ≡ text
some_text byte more text = ap (λ (none : Bool). if none then [] else text) (ne_eqb (length (byte ∷ more)) 0 (λ (e : suc (length more) ≡ 0). omega (arith, e)))

some_words : (front releases : List ℕ) (allows : Bool) (rest : List ℕ) → said_line front releases (said_word allows ++ rest) ≡ front ++ (codes "the MDS of Ceph " ++ (releases ++ (said_word allows ++ rest)))
some_words front releases true rest = some_text 32 (drop 1 (said_word true) ++ rest) (front ++ (codes "the MDS of Ceph " ++ (releases ++ (said_word true ++ rest))))
some_words front releases false rest = some_text 32 (drop 1 (said_word false) ++ rest) (front ++ (codes "the MDS of Ceph " ++ (releases ++ (said_word false ++ rest))))

otherwise_apart : (h : List ℕ) (a : Bool) (r : Releases) (o : Otherwise) (s : List ℕ)
    → said_line (h ++ (codes " " ++ (access_word (access_of a) ++ codes ": "))) (releases_text r) (said (Some o)) ++ s ≡ h ++ 32 ∷ from_access a r o s
otherwise_apart h a r o s =
    ap (λ (w : List ℕ). w ++ s) (some_words (h ++ (codes " " ++ (access_word (access_of a) ++ codes ": "))) (releases_text r) o.allows (reason_text o.reason ++ (codes " (grant " ++ (decimal o.grant ++ codes ")\n"))))
    ∙ said_apart h (access_word (access_of a)) (releases_text r) (said (Some o)) s

summary_apart : (a b c d e f s : List ℕ)
    → (codes "inodes " ++ a ++ codes ", entries " ++ b ++ codes ", sessions " ++ c ++ codes ", held beyond " ++ d ++ codes ", conflicts " ++ e ++ codes ", not judged " ++ f ++ codes "\n") ++ s
    ≡ codes "inodes " ++ (a ++ (codes ", entries " ++ (b ++ (codes ", sessions " ++ (c ++ (codes ", held beyond " ++ (d ++ (codes ", conflicts " ++ (e ++ (codes ", not judged " ++ (f ++ 10 ∷ s)))))))))))
summary_apart a b c d e f s = simp append_assoc

laid_out : (l : Line) (s : List ℕ) → line_text l ++ s ≡ laid l s
laid_out (reported.held k p c n i x f u) s = held_apart (place_text p c n) (text_of i) (text_of f.caps) (revoked_text (minus f.caps x)) (why_text f.missing f.denial) (unjudged_text u) s
laid_out (reported.group c f n) s = group_apart (why_text f.missing f.denial) (quoted c) (decimal n) s
laid_out (reported.conflict m p a b c) s = conflict_apart (on_inode Each m p) (holder_text Each c.one.client a) (text_of c.one.caps) (text_of c.other.caps) (holder_text Each c.other.client b) s
laid_out (reported.conflict_group a b c n) s = conflict_groups_apart (holder_text Groups c.one.client a) (text_of c.one.caps) (text_of c.other.caps) (holder_text Groups c.other.client b) (decimal n) s
laid_out (reported.renamed n c a) s = renamed_apart (decimal n) (quoted c) (quoted a) s
laid_out (reported.unlinked n p) s = unlinked_apart (decimal n) (quoted (path_text p)) s
laid_out (reported.unnamed n) s = unnamed_apart (decimal n) s
laid_out (reported.unlisted c) s = append_assoc (quoted c) (codes ": no entry in the auth list\n") s
laid_out (reported.unread c (unreadable.Own f)) s = unread_apart (quoted c) (fault_word f.kind) (decimal f.at) s
laid_out (reported.unread c (unreadable.There r at)) s = not_read_apart (quoted c) (version_of r) (decimal at) s
laid_out (reported.unknown w k p c n) s = unknown_apart (place_text p c n) (unknown_text w) s
laid_out (reported.pathless k c n i) s = pathless_apart (decimal k) (who_text c n) (quoted i) s
laid_out (reported.otherwise p c n a r o) s = otherwise_apart (place_text p c n) a r o s
laid_out (reported.otherwise_group c a r o) s = otherwise_apart (quoted c) a r o s
laid_out reported.nothing s = refl
laid_out (reported.summary n) s = summary_apart (decimal n.inodes) (decimal n.entries) (decimal n.sessions) (decimal n.held_beyond) (decimal n.conflicts) (decimal n.not_judged) s

-- ---- kinds

abbrev pub kind : Line → ℕ
kind (reported.held k p c n i x f u) = 1
kind (reported.group c f n) = 2
kind (reported.conflict m p a b c) = 3
kind (reported.conflict_group a b c n) = 4
kind (reported.unnamed n) = 5
kind (reported.unlisted c) = 6
kind (reported.unread c w) = 7
kind (reported.unknown w k p c n) = 8
kind (reported.pathless k c n i) = 9
kind reported.nothing = 10
kind (reported.summary n) = 11
kind (reported.renamed n c a) = 12
kind (reported.unlinked n p) = 13
kind (reported.otherwise p c n a r o) = 14
kind (reported.otherwise_group c a r o) = 15

some_kind : (l : Line) → 0 < kind l
some_kind reported.nothing = omega arith
some_kind l = omega arith

kind_is : (l : Line) (s : List ℕ) → HasNumbers l → kind_of (laid l s) ≡ kind l
kind_is (reported.held k p c n i x f u) s small = of_held p c n i (text_of f.caps ++ from_beyond_caps x f u s) small
kind_is (reported.group c f n) s small = of_group f.missing f.denial (quoted c ++ (codes ": " ++ (decimal n ++ 10 ∷ s)))
kind_is (reported.conflict m None a b c) s small =
    let rest : List ℕ = 32 ∷ holds c (holder_text Each c.other.client b ++ 10 ∷ s) in
    ap (λ (w : List ℕ). kind_of (codes "inode " ++ w)) (append_assoc (decimal m) (codes " ") (holder_text Each c.one.client a ++ rest)) ∙ on_number m c.one.client a rest small.0 small.1
kind_is (reported.conflict m (Some p) a b c) s small = on_path p m c.one.client a c.one.caps (text_of c.other.caps ++ (codes " of " ++ (holder_text Each c.other.client b ++ 10 ∷ s))) small.1
kind_is (reported.conflict_group a b c n) s small = of_conflict_text c.one.client a c.one.caps (text_of c.other.caps ++ (codes " of " ++ (holder_text Groups c.other.client b ++ (codes ": " ++ (decimal n ++ 10 ∷ s))))) small.1
kind_is (reported.renamed n c a) s small = of_renamed n (quoted c ++ (codes " calls itself " ++ (quoted a ++ 10 ∷ s))) small
kind_is (reported.unlinked n p) s small = of_unlinked n (quoted (path_text p) ++ 10 ∷ s) small
kind_is (reported.unnamed n) s small = of_unnamed n s small
kind_is (reported.unlisted c) s small = of_unlisted c s
kind_is (reported.unread c (unreadable.Own f)) s small = of_unread c f.kind (decimal f.at ++ 10 ∷ s)
kind_is (reported.unread c (unreadable.There r at)) s small = of_unread_there c r (codes " at " ++ (decimal at ++ 10 ∷ s))
kind_is (reported.unknown w k p c n) s small = of_unknown p c n (unknown_text w ++ s) small
kind_is (reported.pathless k c n i) s small = of_pathless k (who_text c n ++ (codes " holds " ++ (quoted i ++ 10 ∷ s))) small.0
kind_is (reported.otherwise p c n a r o) s small = of_otherwise p c n a (releases_text r ++ (said (Some o) ++ s)) small.0
kind_is (reported.otherwise_group c a r o) s small = of_otherwise_group c a (releases_text r ++ (said (Some o) ++ s))
kind_is reported.nothing s small = of_nothing s
kind_is (reported.summary n) s small = of_summary n.inodes (from_entries n s) small.inodes

-- ---- parts of lines

behind_word : (word : List ℕ) (m n : ℕ) (s t : List ℕ) → m < 2 ^ 64 → n < 2 ^ 64 → is_digit (first_byte s) ≡ false → is_digit (first_byte t) ≡ false → word ++ (decimal m ++ s) ≡ word ++ (decimal n ++ t) → (m ≡ n) × (s ≡ t)
behind_word word m n s t small also ends too same = number m n s t small also ends too (append_cancel_left word (decimal m ++ s) (decimal n ++ t) same)

-- a number that ends a line
last_number : (m n : ℕ) (s t : List ℕ) → m < 2 ^ 64 → n < 2 ^ 64 → decimal m ++ 10 ∷ s ≡ decimal n ++ 10 ∷ t → (m ≡ n) × (s ≡ t)
last_number m n s t small also same =
    let both = number m n (10 ∷ s) (10 ∷ t) small also refl refl same in
    (both.0, append_cancel_left (codes "\n") s t both.1)

-- a session that tells no name is none that tells one
no_session : {X : Type 0} (m n : ℕ) (d s t : List ℕ) → m < 2 ^ 64 → holder_text Each m None ++ s ≡ holder_text Each n (Some d) ++ t → X
no_session m n d s t small same =
    let both = before_a_space (codes "client") d (decimal m ++ s) (codes "session " ++ (decimal n ++ t)) (same ∙ append_assoc (quoted d) (codes " session " ++ decimal n) t) in
    no_number m s (codes "session " ++ (decimal n ++ t)) small refl both.1

one_holder : (m n : ℕ) (a b : Option (List ℕ)) (s t : List ℕ) → m < 2 ^ 64 → n < 2 ^ 64 → is_digit (first_byte s) ≡ false → is_digit (first_byte t) ≡ false → holder_text Each m a ++ s ≡ holder_text Each n b ++ t
    → (m ≡ n) × (a ≡ b) × (s ≡ t)
one_holder m n None None s t small also ends too same = let both = behind_word (codes "client ") m n s t small also ends too same in (both.0, refl, both.1)
one_holder m n None (Some d) s t small also ends too same = no_session m n d s t small same
one_holder m n (Some c) None s t small also ends too same = no_session n m c t s also (sym same)
one_holder m n (Some c) (Some d) s t small also ends too same =
    let name = before_a_space c d (codes "session " ++ (decimal m ++ s)) (codes "session " ++ (decimal n ++ t))
    (sym (append_assoc (quoted c) (codes " session " ++ decimal m) s) ∙ same ∙ append_assoc (quoted d) (codes " session " ++ decimal n) t) in
    let both = behind_word (codes "session ") m n s t small also ends too name.1 in
    (both.0, ap Some name.0, both.1)

one_place : (p q : List (List ℕ)) (c d : List ℕ) (m n : ℕ) (s t : List ℕ) → m < 2 ^ 64 → n < 2 ^ 64 → is_digit (first_byte s) ≡ false → is_digit (first_byte t) ≡ false → place_text p c m ++ s ≡ place_text q d n ++ t
    → (path_text p ≡ path_text q) × (c ≡ d) × (m ≡ n) × (s ≡ t)
one_place p q c d m n s t small also ends too same =
    let path = before_a_space (path_text p) (path_text q) (quoted c ++ 32 ∷ (codes "session " ++ (decimal m ++ s))) (quoted d ++ 32 ∷ (codes "session " ++ (decimal n ++ t)))
    (sym (place_is p c m s) ∙ same ∙ place_is q d n t) in
    let name = before_a_space c d (codes "session " ++ (decimal m ++ s)) (codes "session " ++ (decimal n ++ t)) path.1 in
    let both = behind_word (codes "session ") m n s t small also ends too name.1 in
    (path.0, name.0, both.0, both.1)

no_inode : {X : Type 0} (q : List (List ℕ)) (s t : List ℕ) → codes "inode " ++ s ≡ (quoted (path_text q) ++ codes " ") ++ t → X
no_inode q s t same = clash 47 105 (omega arith) (sym (ap opening (same ∙ append_assoc (quoted (path_text q)) (codes " ") t) ∙ opening_path q (codes " " ++ t)))

one_inode : (m n : ℕ) (p q : Option (List (List ℕ))) (s t : List ℕ) → m < 2 ^ 64 → n < 2 ^ 64 → on_inode Each m p ++ s ≡ on_inode Each n q ++ t → IsOneInode m p n q × (s ≡ t)
one_inode m n None None s t small also same =
    let both = behind_word (codes "inode ") m n (32 ∷ s) (32 ∷ t) small also refl refl
    (ap (λ (w : List ℕ). codes "inode " ++ w) (sym (append_assoc (decimal m) (codes " ") s)) ∙ same ∙ ap (λ (w : List ℕ). codes "inode " ++ w) (append_assoc (decimal n) (codes " ") t)) in
    (both.0, append_cancel_left (codes " ") s t both.1)
one_inode m n None (Some q) s t small also same = no_inode q ((decimal m ++ codes " ") ++ s) t same
one_inode m n (Some p) None s t small also same = no_inode p ((decimal n ++ codes " ") ++ t) s (sym same)
one_inode m n (Some p) (Some q) s t small also same =
    before_a_space (path_text p) (path_text q) s t (sym (append_assoc (quoted (path_text p)) (codes " ") s) ∙ same ∙ append_assoc (quoted (path_text q)) (codes " ") t)

-- the first client of a group, and the last one with how many there are
one_first : (m n : ℕ) (a b : Option (List ℕ)) (s t : List ℕ) → m < 2 ^ 64 → n < 2 ^ 64 → is_digit (first_byte s) ≡ false → is_digit (first_byte t) ≡ false → holder_text Groups m a ++ 32 ∷ s ≡ holder_text Groups n b ++ 32 ∷ t
    → IsOneClient m a n b × (s ≡ t)
one_first m n None None s t small also ends too same =
    let both = behind_word (codes "client ") m n (32 ∷ s) (32 ∷ t) small also refl refl same in
    (both.0, append_cancel_left (codes " ") s t both.1)
one_first m n None (Some d) s t small also ends too same = no_number m (32 ∷ s) t small too (before_a_space (codes "client") d (decimal m ++ 32 ∷ s) t same).1
one_first m n (Some c) None s t small also ends too same = no_number n (32 ∷ t) s also ends (before_a_space (codes "client") c (decimal n ++ 32 ∷ t) s (sym same)).1
one_first m n (Some c) (Some d) s t small also ends too same = before_a_space c d s t same

no_last : {X : Type 0} (m k l : ℕ) (d s t : List ℕ) → m < 2 ^ 64 → l < 2 ^ 64 → codes "client " ++ (decimal m ++ (codes ": " ++ (decimal k ++ 10 ∷ s))) ≡ quoted d ++ (codes ": " ++ (decimal l ++ 10 ∷ t)) → X
no_last m k l d s t small also same =
    let rest : decimal m ++ (codes ": " ++ (decimal k ++ 10 ∷ s)) ≡ decimal l ++ 10 ∷ t = ap behind same ∙ past_quoted d (codes ": " ++ (decimal l ++ 10 ∷ t)) in
    let both = number m l (codes ": " ++ (decimal k ++ 10 ∷ s)) (10 ∷ t) small also refl refl rest in
    clash 10 58 (omega arith) (sym (ap first_byte both.1))

one_last : (m n k l : ℕ) (a b : Option (List ℕ)) (s t : List ℕ) → m < 2 ^ 64 → n < 2 ^ 64 → k < 2 ^ 64 → l < 2 ^ 64
    → holder_text Groups m a ++ (codes ": " ++ (decimal k ++ 10 ∷ s)) ≡ holder_text Groups n b ++ (codes ": " ++ (decimal l ++ 10 ∷ t)) → IsOneClient m a n b × (k ≡ l) × (s ≡ t)
one_last m n k l None None s t small also few too same =
    let both = behind_word (codes "client ") m n (codes ": " ++ (decimal k ++ 10 ∷ s)) (codes ": " ++ (decimal l ++ 10 ∷ t)) small also refl refl same in
    let count = last_number k l s t few too (append_cancel_left (codes ": ") (decimal k ++ 10 ∷ s) (decimal l ++ 10 ∷ t) both.1) in
    (both.0, count.0, count.1)
one_last m n k l None (Some d) s t small also few too same = no_last m k l d s t small too same
one_last m n k l (Some c) None s t small also few too same = no_last n l k c t s also few (sym same)
one_last m n k l (Some c) (Some d) s t small also few too same =
    let name = before_word (codes ":") c d (decimal k ++ 10 ∷ s) (decimal l ++ 10 ∷ t) refl same in
    let count = last_number k l s t few too name.1 in
    (name.0, count.0, count.1)

one_beside : (c d : Conflict) (s t : List ℕ) → holds c s ≡ holds d t → (c.one.caps ≡ d.one.caps) × (c.other.caps ≡ d.other.caps) × (s ≡ t)
one_beside c d s t same =
    let one = one_caps c.one.caps d.one.caps (beside c s) (beside d t) refl refl (append_cancel_left (codes "holds ") (text_of c.one.caps ++ beside c s) (text_of d.one.caps ++ beside d t) same) in
    let other = one_caps c.other.caps d.other.caps (codes " of " ++ s) (codes " of " ++ t) refl refl
    (append_cancel_left (codes " beside ") (text_of c.other.caps ++ (codes " of " ++ s)) (text_of d.other.caps ++ (codes " of " ++ t)) one.1) in
    (one.0, other.0, append_cancel_left (codes " of ") s t other.1)

-- ---- two lines of one kind

-- the end of a line
end_begins : (a : Bool) (s : List ℕ) → first_byte (unjudged_text a ++ 10 ∷ s) < 44
end_begins true s = omega arith
end_begins false s = omega arith

one_end : (a b : Bool) (s t : List ℕ) → unjudged_text a ++ 10 ∷ s ≡ unjudged_text b ++ 10 ∷ t → (a ≡ b) × (s ≡ t)
one_end true true s t same = (refl, append_cancel_left (codes " (unjudged from Ceph 18 on)\n") s t same)
one_end true false s t same = clash 10 32 (omega arith) (sym (ap first_byte same))
one_end false true s t same = clash 10 32 (omega arith) (ap first_byte same)
one_end false false s t same = (refl, append_cancel_left (codes "\n") s t same)

one_held : (p q : List (List ℕ)) (c d : List ℕ) (m n : ℕ) (i j x y : Caps) (f g : Finding) (a b : Bool) (s t : List ℕ) → m < 2 ^ 64 → n < 2 ^ 64 → laid (reported.held 0 p c m i x f a) s ≡ laid (reported.held 0 q d n j y g b) t
    → TellTheSame (reported.held 0 p c m i x f a) (reported.held 0 q d n j y g b) × (s ≡ t)
one_held p q c d m n i j x y f g a b s t small also same =
    let u : List ℕ = text_of f.caps ++ from_beyond_caps x f a s in
    let v : List ℕ = text_of g.caps ++ from_beyond_caps y g b t in
    let place = one_place p q c d m n (codes " holds " ++ (text_of i ++ (codes ", may not " ++ u))) (codes " holds " ++ (text_of j ++ (codes ", may not " ++ v))) small also refl refl same in
    let issued = one_caps i j (codes ", may not " ++ u) (codes ", may not " ++ v) refl refl (append_cancel_left (codes " holds ") (text_of i ++ (codes ", may not " ++ u)) (text_of j ++ (codes ", may not " ++ v)) place.3) in
    let beyond = one_caps f.caps g.caps (from_beyond_caps x f a s) (from_beyond_caps y g b t) (before_why (minus f.caps x) (32 ∷ from_why f a s)) (before_why (minus g.caps y) (32 ∷ from_why g b t)) (append_cancel_left (codes ", may not ") u v issued.1) in
    let revoked = one_revoked (minus f.caps x) (minus g.caps y) (32 ∷ from_why f a s) (32 ∷ from_why g b t) beyond.1 in
    let why = one_why f.missing g.missing f.denial g.denial (unjudged_text a ++ 10 ∷ s) (unjudged_text b ++ 10 ∷ t) (end_begins a s) (end_begins b t) (append_cancel_left (codes " ") (from_why f a s) (from_why g b t) revoked.1) in
    let end = one_end a b s t why.1 in
    ((place.0, place.1, place.2, issued.0, beyond.0, revoked.0, why.0, end.0), end.1)

one_group : (c d : List ℕ) (f g : Finding) (m n : ℕ) (s t : List ℕ) → m < 2 ^ 64 → n < 2 ^ 64 → laid (reported.group c f m) s ≡ laid (reported.group d g n) t → TellTheSame (reported.group c f m) (reported.group d g n) × (s ≡ t)
one_group c d f g m n s t small also same =
    let u : List ℕ = quoted c ++ (codes ": " ++ (decimal m ++ 10 ∷ s)) in
    let v : List ℕ = quoted d ++ (codes ": " ++ (decimal n ++ 10 ∷ t)) in
    let why = one_why f.missing g.missing f.denial g.denial (32 ∷ u) (32 ∷ v) (omega arith) (omega arith) same in
    let name = before_word (codes ":") c d (decimal m ++ 10 ∷ s) (decimal n ++ 10 ∷ t) refl (append_cancel_left (codes " ") u v why.1) in
    let count = last_number m n s t small also name.1 in
    ((why.0, name.0, count.0), count.1)

one_conflict : (m n : ℕ) (p q : Option (List (List ℕ))) (a b x y : Option (List ℕ)) (c d : Conflict) (s t : List ℕ) → HasNumbers (reported.conflict m p a b c) → HasNumbers (reported.conflict n q x y d)
    → laid (reported.conflict m p a b c) s ≡ laid (reported.conflict n q x y d) t → TellTheSame (reported.conflict m p a b c) (reported.conflict n q x y d) × (s ≡ t)
one_conflict m n p q a b x y c d s t small also same =
    let u : List ℕ = holder_text Each c.other.client b ++ 10 ∷ s in
    let v : List ℕ = holder_text Each d.other.client y ++ 10 ∷ t in
    let inode = one_inode m n p q (holder_text Each c.one.client a ++ 32 ∷ holds c u) (holder_text Each d.one.client x ++ 32 ∷ holds d v) small.0 also.0 same in
    let one = one_holder c.one.client d.one.client a x (32 ∷ holds c u) (32 ∷ holds d v) small.1 also.1 refl refl inode.1 in
    let caps = one_beside c d u v (append_cancel_left (codes " ") (holds c u) (holds d v) one.2) in
    let other = one_holder c.other.client d.other.client b y (10 ∷ s) (10 ∷ t) small.2 also.2 refl refl caps.2 in
    let one_number : c.one.client ≡ d.one.client = one.0 in
    let other_number : c.other.client ≡ d.other.client = other.0 in
    let one_has : c.one.caps ≡ d.one.caps = caps.0 in
    let other_has : c.other.caps ≡ d.other.caps = caps.1 in
    let both : c ≡ d = λ i. record { one = record { client = one_number i; caps = one_has i }; other = record { client = other_number i; caps = other_has i } } in
    ((inode.0, one.1, other.1, both), append_cancel_left (codes "\n") s t other.2)

one_conflict_group : (a b x y : Option (List ℕ)) (c d : Conflict) (m n : ℕ) (s t : List ℕ) → HasNumbers (reported.conflict_group a b c m) → HasNumbers (reported.conflict_group x y d n)
    → laid (reported.conflict_group a b c m) s ≡ laid (reported.conflict_group x y d n) t → TellTheSame (reported.conflict_group a b c m) (reported.conflict_group x y d n) × (s ≡ t)
one_conflict_group a b x y c d m n s t small also same =
    let u : List ℕ = holder_text Groups c.other.client b ++ (codes ": " ++ (decimal m ++ 10 ∷ s)) in
    let v : List ℕ = holder_text Groups d.other.client y ++ (codes ": " ++ (decimal n ++ 10 ∷ t)) in
    let one = one_first c.one.client d.one.client a x (holds c u) (holds d v) small.1 also.1 refl refl same in
    let caps = one_beside c d u v one.1 in
    let other = one_last c.other.client d.other.client m n b y s t small.2 also.2 small.0 also.0 caps.2 in
    ((one.0, caps.0, caps.1, other.0, other.1), other.2)

one_renamed : (m n : ℕ) (c d a b s t : List ℕ) → m < 2 ^ 64 → n < 2 ^ 64 → laid (reported.renamed m c a) s ≡ laid (reported.renamed n d b) t → TellTheSame (reported.renamed m c a) (reported.renamed n d b) × (s ≡ t)
one_renamed m n c d a b s t small also same =
    let u : List ℕ = codes "calls itself " ++ (quoted a ++ 10 ∷ s) in
    let v : List ℕ = codes "calls itself " ++ (quoted b ++ 10 ∷ t) in
    let session = behind_word (codes "session ") m n (codes ": " ++ (quoted c ++ 32 ∷ u)) (codes ": " ++ (quoted d ++ 32 ∷ v)) small also refl refl same in
    let name = before_a_space c d u v (append_cancel_left (codes ": ") (quoted c ++ 32 ∷ u) (quoted d ++ 32 ∷ v) session.1) in
    let other = before_a_line_feed a b s t (append_cancel_left (codes "calls itself ") (quoted a ++ 10 ∷ s) (quoted b ++ 10 ∷ t) name.1) in
    ((session.0, name.0, other.0), other.1)

one_unlinked : (m n : ℕ) (p q : List (List ℕ)) (s t : List ℕ) → m < 2 ^ 64 → n < 2 ^ 64 → laid (reported.unlinked m p) s ≡ laid (reported.unlinked n q) t → TellTheSame (reported.unlinked m p) (reported.unlinked n q) × (s ≡ t)
one_unlinked m n p q s t small also same =
    let word : List ℕ = codes ": unlinked, judged as " in
    let u : List ℕ = quoted (path_text p) ++ 10 ∷ s in
    let v : List ℕ = quoted (path_text q) ++ 10 ∷ t in
    let inode = behind_word (codes "inode ") m n (word ++ u) (word ++ v) small also refl refl same in
    let path = before_a_line_feed (path_text p) (path_text q) s t (append_cancel_left word u v inode.1) in
    ((inode.0, path.0), path.1)

one_unnamed : (m n : ℕ) (s t : List ℕ) → m < 2 ^ 64 → n < 2 ^ 64 → laid (reported.unnamed m) s ≡ laid (reported.unnamed n) t → (m ≡ n) × (s ≡ t)
one_unnamed m n s t small also same =
    let both = behind_word (codes "client ") m n (codes ": no session names it\n" ++ s) (codes ": no session names it\n" ++ t) small also refl refl same in
    (both.0, append_cancel_left (codes ": no session names it\n") s t both.1)

one_unlisted : (c d s t : List ℕ) → laid (reported.unlisted c) s ≡ laid (reported.unlisted d) t → (c ≡ d) × (s ≡ t)
one_unlisted c d s t same =
    let both = before_word (codes ":") c d (codes "no entry in the auth list\n" ++ s) (codes "no entry in the auth list\n" ++ t) refl same in
    (both.0, append_cancel_left (codes "no entry in the auth list\n") s t both.1)

-- the version by its second byte, and the first
abbrev release_at : List ℕ → ℕ
release_at text = first_byte text + first_byte (drop 1 text)

one_version : (a b : Release) (s t : List ℕ) → version_of a ++ 32 ∷ s ≡ version_of b ++ 32 ∷ t → (a ≡ b) × (s ≡ t)
one_version Pacific Pacific s t same = (refl, append_cancel_left (codes "16.2.15 ") s t same)
one_version Pacific Reef s t same = clash 103 105 (omega arith) (ap release_at same)
one_version Pacific Tentacle s t same = clash 98 103 (omega arith) (sym (ap release_at same))
one_version Reef Pacific s t same = clash 103 105 (omega arith) (sym (ap release_at same))
one_version Reef Reef s t same = (refl, append_cancel_left (codes "18.2.7 ") s t same)
one_version Reef Tentacle s t same = clash 98 105 (omega arith) (sym (ap release_at same))
one_version Tentacle Pacific s t same = clash 98 103 (omega arith) (ap release_at same)
one_version Tentacle Reef s t same = clash 98 105 (omega arith) (ap release_at same)
one_version Tentacle Tentacle s t same = (refl, append_cancel_left (codes "20.2.4 ") s t same)

-- behind the word for a fault stands how many bytes are read
abbrev from_at : ℕ → List ℕ → List ℕ
from_at at s = codes "at " ++ (decimal at ++ 10 ∷ s)

one_at : (m n : ℕ) (s t : List ℕ) → m < 2 ^ 64 → n < 2 ^ 64 → from_at m s ≡ from_at n t → (m ≡ n) × (s ≡ t)
one_at m n s t small also same = last_number m n s t small also (append_cancel_left (codes "at ") (decimal m ++ 10 ∷ s) (decimal n ++ 10 ∷ t) same)

-- faults of this server begin with a capital
no_fault : {X : Type 0} (k : SpecFaultKind) (s t : List ℕ) → fault_word k ++ s ≡ codes "not read by Ceph " ++ t → X
no_fault kinds.Empty s t same = clash 69 110 (omega arith) (ap first_byte same)
no_fault kinds.NotAllow s t same = clash 78 110 (omega arith) (ap first_byte same)
no_fault kinds.BadFlags s t same = clash 66 110 (omega arith) (ap first_byte same)
no_fault kinds.BadItem s t same = clash 66 110 (omega arith) (ap first_byte same)
no_fault kinds.Twice s t same = clash 84 110 (omega arith) (ap first_byte same)
no_fault kinds.BadNumber s t same = clash 66 110 (omega arith) (ap first_byte same)
no_fault kinds.OpenQuote s t same = clash 79 110 (omega arith) (ap first_byte same)
no_fault kinds.GidsWithoutUid s t same = clash 71 110 (omega arith) (ap first_byte same)
no_fault kinds.LeftOut s t same = clash 76 110 (omega arith) (ap first_byte same)
no_fault kinds.TooMany s t same = clash 84 110 (omega arith) (ap first_byte same)
no_fault kinds.BadPath s t same = clash 66 110 (omega arith) (ap first_byte same)
no_fault kinds.NoMemory s t same = clash 78 110 (omega arith) (ap first_byte same)

one_wrong : (v w : Unreadable) (s t : List ℕ) → wrong_at v < 2 ^ 64 → wrong_at w < 2 ^ 64 → wrong_word v ++ 32 ∷ from_at (wrong_at v) s ≡ wrong_word w ++ 32 ∷ from_at (wrong_at w) t → (v ≡ w) × (s ≡ t)
one_wrong (unreadable.Own f) (unreadable.Own g) s t small also same =
    let word = bare (fault_word f.kind) (fault_word g.kind) (from_at f.at s) (from_at g.at t) (plain_fault f.kind) (plain_fault g.kind) same in
    let place = one_at f.at g.at s t small also word.1 in
    let one_word : fault_word f.kind ≡ fault_word g.kind = word.0 in
    let one_place : f.at ≡ g.at = place.0 in
    let line : unread_line [] f ≡ unread_line [] g = λ i. quoted [] ++ (codes ": grants: " ++ (one_word i ++ (codes " at " ++ (decimal (one_place i) ++ codes "\n")))) in
    (ap unreadable.Own (one_fault [] [] f g small also line).1, place.1)
one_wrong (unreadable.Own f) (unreadable.There b n) s t small also same = no_fault f.kind (32 ∷ from_at f.at s) (version_of b ++ 32 ∷ from_at n t) same
one_wrong (unreadable.There a m) (unreadable.Own g) s t small also same = no_fault g.kind (32 ∷ from_at g.at t) (version_of a ++ 32 ∷ from_at m s) (sym same)
one_wrong (unreadable.There a m) (unreadable.There b n) s t small also same =
    let release = one_version a b (from_at m s) (from_at n t) (append_cancel_left (codes "not read by Ceph ") (version_of a ++ 32 ∷ from_at m s) (version_of b ++ 32 ∷ from_at n t) same) in
    let place = one_at m n s t small also release.1 in
    let one_release : a ≡ b = release.0 in
    let one_place : m ≡ n = place.0 in
    (λ i. unreadable.There (one_release i) (one_place i), place.1)

at_most : (c : List ℕ) (w : Unreadable) → HasNumbers (reported.unread c w) → wrong_at w < 2 ^ 64
at_most c (unreadable.Own f) small = small
at_most c (unreadable.There r at) small = small

one_unread : (c d : List ℕ) (v w : Unreadable) (s t : List ℕ) → HasNumbers (reported.unread c v) → HasNumbers (reported.unread d w) → laid (reported.unread c v) s ≡ laid (reported.unread d w) t → TellTheSame (reported.unread c v) (reported.unread d w) × (s ≡ t)
one_unread c d v w s t small also same =
    let u : List ℕ = wrong_word v ++ 32 ∷ from_at (wrong_at v) s in
    let x : List ℕ = wrong_word w ++ 32 ∷ from_at (wrong_at w) t in
    let name = before_word (codes ":") c d (codes "grants: " ++ u) (codes "grants: " ++ x) refl same in
    let wrong = one_wrong v w s t (at_most c v small) (at_most d w also) (append_cancel_left (codes "grants: ") u x name.1) in
    ((name.0, wrong.0), wrong.1)

one_unknown_text : (a b : Unknown) (s t : List ℕ) → unknown_text a ++ s ≡ unknown_text b ++ t → (a ≡ b) × (s ≡ t)
one_unknown_text Spelling Spelling s t same = (refl, append_cancel_left (codes "not known\n") s t same)
one_unknown_text Spelling Address s t same = clash 110 112 (omega arith) (ap first_byte same)
one_unknown_text Address Spelling s t same = clash 110 112 (omega arith) (sym (ap first_byte same))
one_unknown_text Address Address s t same = (refl, append_cancel_left (codes "permitted from some addresses alone\n") s t same)

one_unknown : (a b : Unknown) (p q : List (List ℕ)) (c d : List ℕ) (m n : ℕ) (s t : List ℕ) → m < 2 ^ 64 → n < 2 ^ 64 → laid (reported.unknown a 0 p c m) s ≡ laid (reported.unknown b 0 q d n) t
    → TellTheSame (reported.unknown a 0 p c m) (reported.unknown b 0 q d n) × (s ≡ t)
one_unknown a b p q c d m n s t small also same =
    let place = one_place p q c d m n (codes " holds what is " ++ (unknown_text a ++ s)) (codes " holds what is " ++ (unknown_text b ++ t)) small also refl refl same in
    let unknown = one_unknown_text a b s t (append_cancel_left (codes " holds what is ") (unknown_text a ++ s) (unknown_text b ++ t) place.3) in
    ((unknown.0, place.0, place.1, place.2), unknown.1)

one_pathless : (k l : ℕ) (c d : List ℕ) (m n : ℕ) (i j s t : List ℕ) → HasNumbers (reported.pathless k c m i) → HasNumbers (reported.pathless l d n j) → laid (reported.pathless k c m i) s ≡ laid (reported.pathless l d n j) t
    → TellTheSame (reported.pathless k c m i) (reported.pathless l d n j) × (s ≡ t)
one_pathless k l c d m n i j s t small also same =
    let u : List ℕ = codes " holds " ++ (quoted i ++ 10 ∷ s) in
    let v : List ℕ = codes " holds " ++ (quoted j ++ 10 ∷ t) in
    let inode = behind_word (codes "inode ") k l (codes ": no path: " ++ (who_text c m ++ u)) (codes ": no path: " ++ (who_text d n ++ v)) small.0 also.0 refl refl same in
    let who = one_holder m n (Some c) (Some d) u v small.1 also.1 refl refl (append_cancel_left (codes ": no path: ") (who_text c m ++ u) (who_text d n ++ v) inode.1) in
    let names : Some c ≡ Some d = who.1 in
    let name : c ≡ d = cc in
    let issued = before_a_line_feed i j s t (append_cancel_left (codes " holds ") (quoted i ++ 10 ∷ s) (quoted j ++ 10 ∷ t) who.2) in
    ((inode.0, name, who.0, issued.0), issued.1)

-- the releases as the texts of `explain` and `who` name them
abbrev named : Releases → Named
named reported.all_three = each
named reported.first_two = first_two
named reported.last_two = last_two
named reported.sixteen = sixteen
named reported.eighteen = eighteen
named reported.twenty = twenty

abbrev unnamed : Named → Releases
unnamed each = reported.all_three
unnamed first_two = reported.first_two
unnamed last_two = reported.last_two
unnamed sixteen = reported.sixteen
unnamed eighteen = reported.eighteen
unnamed twenty = reported.twenty

back : (r : Releases) → unnamed (named r) ≡ r
back reported.all_three = refl
back reported.first_two = refl
back reported.last_two = refl
back reported.sixteen = refl
back reported.eighteen = refl
back reported.twenty = refl

as_named : (r : Releases) (o : Otherwise) (s : List ℕ) → bare_text (named r, o) ++ s ≡ from_release r o s
as_named reported.all_three o s = append_assoc (codes "the MDS of Ceph 16, 18 and 20") (said (Some o)) s
as_named reported.first_two o s = append_assoc (codes "the MDS of Ceph 16 and 18") (said (Some o)) s
as_named reported.last_two o s = append_assoc (codes "the MDS of Ceph 18 and 20") (said (Some o)) s
as_named reported.sixteen o s = append_assoc (codes "the MDS of Ceph 16") (said (Some o)) s
as_named reported.eighteen o s = append_assoc (codes "the MDS of Ceph 18") (said (Some o)) s
as_named reported.twenty o s = append_assoc (codes "the MDS of Ceph 20") (said (Some o)) s

one_release : (r q : Releases) (o e : Otherwise) (s t : List ℕ) → o.grant < 2 ^ 64 → e.grant < 2 ^ 64 → from_release r o s ≡ from_release q e t → (r ≡ q) × (o ≡ e) × (s ≡ t)
one_release r q o e s t small also same =
    let both = one_said_line (named r, o) (named q, e) s t small also (as_named r o s ∙ same ∙ sym (as_named q e t)) in
    let names : named r ≡ named q = ap (λ (l : Named × Otherwise). l.0) both.0 in
    (sym (back r) ∙ ap unnamed names ∙ back q, ap (λ (l : Named × Otherwise). l.1) both.0, both.1)

one_access : (a b : Bool) (s t : List ℕ) → access_word (access_of a) ++ s ≡ access_word (access_of b) ++ t → (a ≡ b) × (s ≡ t)
one_access true true s t same = (refl, append_cancel_left (codes "write") s t same)
one_access true false s t same = clash 114 119 (omega arith) (sym (ap first_byte same))
one_access false true s t same = clash 114 119 (omega arith) (ap first_byte same)
one_access false false s t same = (refl, append_cancel_left (codes "read") s t same)

one_answer : (a b : Bool) (r q : Releases) (o e : Otherwise) (s t : List ℕ) → o.grant < 2 ^ 64 → e.grant < 2 ^ 64 → from_access a r o s ≡ from_access b q e t → (a ≡ b) × (r ≡ q) × (o ≡ e) × (s ≡ t)
one_answer a b r q o e s t small also same =
    let access = one_access a b (codes ": " ++ from_release r o s) (codes ": " ++ from_release q e t) same in
    let release = one_release r q o e s t small also (append_cancel_left (codes ": ") (from_release r o s) (from_release q e t) access.1) in
    (access.0, release.0, release.1, release.2)

one_otherwise : (p q : List (List ℕ)) (c d : List ℕ) (m n : ℕ) (a b : Bool) (r k : Releases) (o e : Otherwise) (s t : List ℕ) → HasNumbers (reported.otherwise p c m a r o) → HasNumbers (reported.otherwise q d n b k e)
    → laid (reported.otherwise p c m a r o) s ≡ laid (reported.otherwise q d n b k e) t → TellTheSame (reported.otherwise p c m a r o) (reported.otherwise q d n b k e) × (s ≡ t)
one_otherwise p q c d m n a b r k o e s t small also same =
    let place = one_place p q c d m n (32 ∷ from_access a r o s) (32 ∷ from_access b k e t) small.0 also.0 refl refl same in
    let answer = one_answer a b r k o e s t small.1 also.1 (append_cancel_left (codes " ") (from_access a r o s) (from_access b k e t) place.3) in
    ((place.0, place.1, place.2, answer.0, answer.1, answer.2), answer.3)

one_otherwise_group : (c d : List ℕ) (a b : Bool) (r k : Releases) (o e : Otherwise) (s t : List ℕ) → o.grant < 2 ^ 64 → e.grant < 2 ^ 64
    → laid (reported.otherwise_group c a r o) s ≡ laid (reported.otherwise_group d b k e) t → TellTheSame (reported.otherwise_group c a r o) (reported.otherwise_group d b k e) × (s ≡ t)
one_otherwise_group c d a b r k o e s t small also same =
    let name = before_a_space c d (from_access a r o s) (from_access b k e t) same in
    let answer = one_answer a b r k o e s t small also name.1 in
    ((name.0, answer.0, answer.1, answer.2), answer.3)

one_summary : (m n : Counts) (s t : List ℕ) → AreCounts m → AreCounts n → laid (reported.summary m) s ≡ laid (reported.summary n) t → (m ≡ n) × (s ≡ t)
one_summary m n s t small also same =
    let a = behind_word (codes "inodes ") m.inodes n.inodes (from_entries m s) (from_entries n t) small.inodes also.inodes refl refl same in
    let b = behind_word (codes ", entries ") m.entries n.entries (from_sessions m s) (from_sessions n t) small.entries also.entries refl refl a.1 in
    let c = behind_word (codes ", sessions ") m.sessions n.sessions (from_beyond m s) (from_beyond n t) small.sessions also.sessions refl refl b.1 in
    let d = behind_word (codes ", held beyond ") m.held_beyond n.held_beyond (from_conflicts m s) (from_conflicts n t) small.held_beyond also.held_beyond refl refl c.1 in
    let u : List ℕ = codes ", not judged " ++ (decimal m.not_judged ++ 10 ∷ s) in
    let v : List ℕ = codes ", not judged " ++ (decimal n.not_judged ++ 10 ∷ t) in
    let e = behind_word (codes ", conflicts ") m.conflicts n.conflicts u v small.conflicts also.conflicts refl refl d.1 in
    let f = last_number m.not_judged n.not_judged s t small.not_judged also.not_judged (append_cancel_left (codes ", not judged ") (decimal m.not_judged ++ 10 ∷ s) (decimal n.not_judged ++ 10 ∷ t) e.1) in
    let one : m.inodes ≡ n.inodes = a.0 in
    let two : m.entries ≡ n.entries = b.0 in
    let three : m.sessions ≡ n.sessions = c.0 in
    let four : m.held_beyond ≡ n.held_beyond = d.0 in
    let five : m.conflicts ≡ n.conflicts = e.0 in
    let six : m.not_judged ≡ n.not_judged = f.0 in
    (λ i. record { inodes = one i; entries = two i; sessions = three i; held_beyond = four i; conflicts = five i; not_judged = six i }, f.1)

-- ---- two lines

of_kind : (a b : Line) (s t : List ℕ) → kind a ≡ kind b → HasNumbers a → HasNumbers b → laid a s ≡ laid b t → TellTheSame a b × (s ≡ t)
of_kind (reported.held k p c m i x f a) (reported.held l q d n j y g b) s t e small also same = one_held p q c d m n i j x y f g a b s t small also same
of_kind (reported.group c f m) (reported.group d g n) s t e small also same = one_group c d f g m n s t small also same
of_kind (reported.conflict m p a b c) (reported.conflict n q x y d) s t e small also same = one_conflict m n p q a b x y c d s t small also same
of_kind (reported.conflict_group a b c m) (reported.conflict_group x y d n) s t e small also same = one_conflict_group a b x y c d m n s t small also same
of_kind (reported.renamed m c a) (reported.renamed n d b) s t e small also same = one_renamed m n c d a b s t small also same
of_kind (reported.unlinked m p) (reported.unlinked n q) s t e small also same = one_unlinked m n p q s t small also same
of_kind (reported.unnamed m) (reported.unnamed n) s t e small also same = one_unnamed m n s t small also same
of_kind (reported.unlisted c) (reported.unlisted d) s t e small also same = one_unlisted c d s t same
of_kind (reported.unread c v) (reported.unread d w) s t e small also same = one_unread c d v w s t small also same
of_kind (reported.unknown a k p c m) (reported.unknown b l q d n) s t e small also same = one_unknown a b p q c d m n s t small also same
of_kind (reported.pathless k c m i) (reported.pathless l d n j) s t e small also same = one_pathless k l c d m n i j s t small also same
of_kind (reported.otherwise p c m a r o) (reported.otherwise q d n b k f) s t e small also same = one_otherwise p q c d m n a b r k o f s t small also same
of_kind (reported.otherwise_group c a r o) (reported.otherwise_group d b k f) s t e small also same = one_otherwise_group c d a b r k o f s t small also same
of_kind reported.nothing reported.nothing s t e small also same = (tt, append_cancel_left (codes "nothing found\n") s t same)
of_kind (reported.summary m) (reported.summary n) s t e small also same = one_summary m n s t small also same
of_kind a b s t e small also same = absurd (eqb-false (kind a) (kind b) refl e)

one_and_more : (a b : Line) (s t : List ℕ) → HasNumbers a → HasNumbers b → line_text a ++ s ≡ line_text b ++ t → TellTheSame a b × (s ≡ t)
one_and_more a b s t small also same =
    let e : laid a s ≡ laid b t = sym (laid_out a s) ∙ same ∙ laid_out b t in
    of_kind a b s t (sym (kind_is a s small) ∙ ap kind_of e ∙ kind_is b t also) small also e

pub one_line : (a b : Line) → HasNumbers a → HasNumbers b → line_text a ≡ line_text b → TellTheSame a b
one_line a b small also same = (one_and_more a b [] [] small also (ap (λ (w : List ℕ). w ++ []) same)).0

-- ---- two texts

no_line : {X : Type 0} (l : Line) (s : List ℕ) → HasNumbers l → line_text l ++ s ≡ [] → X
no_line l s small same = clash 0 (kind l) (some_kind l) (sym none ∙ sym (ap kind_of (sym (laid_out l s) ∙ same)) ∙ kind_is l s small)

pub one_text : (xs ys : List Line) → All HasNumbers xs → All HasNumbers ys → flat_map line_text xs ≡ flat_map line_text ys → AllTellTheSame xs ys
one_text [] [] small also same = tt
one_text [] (b ∷ ys) small also same = no_line b (flat_map line_text ys) (All-head HasNumbers b ys also) (sym same)
one_text (a ∷ xs) [] small also same = no_line a (flat_map line_text xs) (All-head HasNumbers a xs small) same
one_text (a ∷ xs) (b ∷ ys) small also same =
    let both = one_and_more a b (flat_map line_text xs) (flat_map line_text ys) (All-head HasNumbers a xs small) (All-head HasNumbers b ys also) same in
    (both.0, one_text xs ys (All-tail HasNumbers a xs small) (All-tail HasNumbers b ys also) both.1)
