-- The lines beside an answer tell what each release answers.
use Rattle.std.proofs.Common.{◌≡◌, ℕ, suc, ◌<◌, ◌^◌, ◌==◌, Bool, true, false, Option, Some, None, List, [], ◌∷◌, ◌++◌, drop, length, refl, sym, ap, subst, ◌∙◌}
use Rattle.std.proofs.Common.{append_assoc, arith}
use Rattle.std.specs.Prelude.{bytes_eq, codes, if◌then◌else◌}
use Rattle.std.specs.Fmt.{decimal}
use Rattle.std.specs.List.{flat_map}
use Rattle.std.proofs.lemmas.Bool.{ne_eqb}
use Rattle.std.proofs.lemmas.List.{append-nil, append_cancel_left}
use Rattle.std.proofs.lemmas.List.Concat.{flat_map-append}
use Rattle.std.proofs.lemmas.Slice.Eq.{bytes_eq-Decides}
use Rattle.capgrant.specs.declared.answer.Verdict.{Verdict}
use Rattle.capgrant.specs.Question.{Question}
use Rattle.release_rules.specs.declared.beside.Otherwise.{Otherwise}
use Rattle.release_rules.specs.declared.beside.Others.{Others}
use Rattle.release_rules.specs.declared.beside.Reason.{Reason}
use Rattle.release_rules.specs.declared.beside.Reason.TheVariants.{AttributeByFlag, GroupsInOrder, LargeUid, ModeByBits, OtherFileSystem, OtherText}
use Rattle.release_rules.specs.declared.beside.Reason.TheVariants.{PathAsText, ZeroUid}
use Rattle.texts.specs.Explaining.{path_text}
use Rattle.texts.specs.Lines.{answer_line}
use Rattle.texts.specs.Mds.{beside_text, others_lines, reason_text, said, said_line, said_word}
use Rattle.texts.specs.MdsTold.{AreBeside, AreCounted, IsCounted}
use Rattle.texts.specs.Remarked.{AreLeftAlike}
use Rattle.texts.specs.Remarks.{left_line}
use Rattle.texts.proofs.Answered.{number_and, one_answer_to}
use Rattle.texts.proofs.Quoted.{clash, first_byte}
use Rattle.texts.proofs.Remarked.{IsOther, one_left}

-- ---- what is said of one release

abbrev reason_at : List ℕ → Reason
reason_at text =
    let byte : ℕ = first_byte (drop 2 text) in
    if first_byte text == 117 then ZeroUid
    else (if first_byte text == 116 then OtherText
    else (if byte == 115 then PathAsText
    else (if byte == 113 then AttributeByFlag
    else (if byte == 99 then ModeByBits
    else (if first_byte (drop 4 text) == 111 then GroupsInOrder else (if first_byte (drop 8 text) == 102 then OtherFileSystem else LargeUid))))))

has_text : (reason : Reason) (s : List ℕ) → reason_at (reason_text reason ++ s) ≡ reason
has_text OtherFileSystem s = refl
has_text ZeroUid s = refl
has_text LargeUid s = refl
has_text PathAsText s = refl
has_text AttributeByFlag s = refl
has_text ModeByBits s = refl
has_text GroupsInOrder s = refl
has_text OtherText s = refl

one_word : (a b : Bool) (s t : List ℕ) → said_word a ++ s ≡ said_word b ++ t → (a ≡ b) × (s ≡ t)
one_word true true s t same = (refl, append_cancel_left (said_word true) s t same)
one_word true false s t same = clash 97 100 (omega arith) (ap (λ (text : List ℕ). first_byte (drop 1 text)) same)
one_word false true s t same = clash 97 100 (omega arith) (sym (ap (λ (text : List ℕ). first_byte (drop 1 text)) same))
one_word false false s t same = (refl, append_cancel_left (said_word false) s t same)

abbrev behind_reason : ℕ → List ℕ → List ℕ
behind_reason grant s = codes " (grant " ++ (decimal grant ++ 41 ∷ 10 ∷ s)

in_words : (o : Otherwise) (s : List ℕ) → said (Some o) ++ s ≡ said_word o.allows ++ (reason_text o.reason ++ behind_reason o.grant s)
in_words o s =
    let behind : List ℕ = codes " (grant " ++ (decimal o.grant ++ codes ")\n") in
    append_assoc (said_word o.allows) (reason_text o.reason ++ behind) s
    ∙ ap (λ (r : List ℕ). said_word o.allows ++ r)
    (append_assoc (reason_text o.reason) behind s ∙ ap (λ (r : List ℕ). reason_text o.reason ++ (codes " (grant " ++ r)) (append_assoc (decimal o.grant) (codes ")\n") s))

one_said : (a b : Otherwise) (s t : List ℕ) → a.grant < 2 ^ 64 → b.grant < 2 ^ 64 → said (Some a) ++ s ≡ said (Some b) ++ t → (a ≡ b) × (s ≡ t)
one_said a b s t small also same =
    let word = one_word a.allows b.allows (reason_text a.reason ++ behind_reason a.grant s) (reason_text b.reason ++ behind_reason b.grant t) (sym (in_words a s) ∙ same ∙ in_words b t) in
    let reason : a.reason ≡ b.reason = sym (has_text a.reason (behind_reason a.grant s)) ∙ ap reason_at word.1 ∙ has_text b.reason (behind_reason b.grant t) in
    let behind = append_cancel_left (reason_text a.reason) (behind_reason a.grant s) (behind_reason b.grant t) (word.1 ∙ ap (λ (r : Reason). reason_text r ++ behind_reason b.grant t) (sym reason)) in
    let number = number_and 41 10 a.grant b.grant s t refl refl small also (append_cancel_left (codes " (grant ") (decimal a.grant ++ 41 ∷ 10 ∷ s) (decimal b.grant ++ 41 ∷ 10 ∷ t) behind) in
    let allows : a.allows ≡ b.allows = word.0 in
    let grant : a.grant ≡ b.grant = number.0 in
    (λ i. record { allows = allows i; grant = grant i; reason = reason i }, number.1)

begins_with : (allows : Bool) (s : List ℕ) → first_byte (said_word allows ++ s) ≡ 32
begins_with true s = refl
begins_with false s = refl

-- of one release alone
one_alone : (x y : Option Otherwise) → IsCounted x → IsCounted y → said x ≡ said y → x ≡ y
one_alone None None small also same = refl
one_alone None (Some b) small also same = clash 0 32 (omega arith) (ap first_byte same ∙ begins_with b.allows (reason_text b.reason ++ (codes " (grant " ++ (decimal b.grant ++ codes ")\n"))))
one_alone (Some a) None small also same = clash 0 32 (omega arith) (sym (ap first_byte same) ∙ begins_with a.allows (reason_text a.reason ++ (codes " (grant " ++ (decimal a.grant ++ codes ")\n"))))
one_alone (Some a) (Some b) small also same = ap Some (one_said a b [] [] small also (ap (λ (text : List ℕ). text ++ []) same)).0

-- ---- lines

-- the releases that a line names
pub data Named : Type 0 where
  each : Named
  first_two : Named
  last_two : Named
  sixteen : Named
  eighteen : Named
  twenty : Named

abbrev named_text : Named → List ℕ
named_text each = codes "16, 18 and 20"
named_text first_two = codes "16 and 18"
named_text last_two = codes "18 and 20"
named_text sixteen = codes "16"
named_text eighteen = codes "18"
named_text twenty = codes "20"

abbrev named_at : List ℕ → Named
named_at text =
    let second : ℕ = first_byte (drop 1 text) in
    if second == 48 then twenty
    else (if first_byte (drop 2 text) == 44 then each
    else (if first_byte (drop 4 text) == 110 then (if second == 54 then first_two else last_two) else (if second == 54 then sixteen else eighteen)))

names_it : (n : Named) (allows : Bool) (s : List ℕ) → named_at (named_text n ++ (said_word allows ++ s)) ≡ n
names_it each true s = refl
names_it each false s = refl
names_it first_two true s = refl
names_it first_two false s = refl
names_it last_two true s = refl
names_it last_two false s = refl
names_it sixteen true s = refl
names_it sixteen false s = refl
names_it eighteen true s = refl
names_it eighteen false s = refl
names_it twenty true s = refl
names_it twenty false s = refl

abbrev pub Line : Type 0
Line = Named × Otherwise

abbrev pub bare_text : Line → List ℕ
bare_text l = codes "the MDS of Ceph " ++ (named_text l.0 ++ said (Some l.1))

-- behind a front
abbrev pub line_text : List ℕ → Line → List ℕ
line_text front l = front ++ bare_text l

named_in : (n : Named) (o : Otherwise) (s : List ℕ) → named_at (named_text n ++ (said (Some o) ++ s)) ≡ n
named_in n o s = ap (λ (r : List ℕ). named_at (named_text n ++ r)) (in_words o s) ∙ names_it n o.allows (reason_text o.reason ++ behind_reason o.grant s)

in_line : (l : Line) (s : List ℕ) → bare_text l ++ s ≡ codes "the MDS of Ceph " ++ (named_text l.0 ++ (said (Some l.1) ++ s))
in_line l s = ap (λ (r : List ℕ). codes "the MDS of Ceph " ++ r) (append_assoc (named_text l.0) (said (Some l.1)) s)

pub one_line : (l m : Line) (s t : List ℕ) → l.1.grant < 2 ^ 64 → m.1.grant < 2 ^ 64 → bare_text l ++ s ≡ bare_text m ++ t → (l ≡ m) × (s ≡ t)
one_line l m s t small also same =
    let behind = append_cancel_left (codes "the MDS of Ceph ") (named_text l.0 ++ (said (Some l.1) ++ s)) (named_text m.0 ++ (said (Some m.1) ++ t)) (sym (in_line l s) ∙ same ∙ in_line m t) in
    let names : l.0 ≡ m.0 = sym (named_in l.0 l.1 s) ∙ ap named_at behind ∙ named_in m.0 m.1 t in
    let words = one_said l.1 m.1 s t small also (append_cancel_left (named_text l.0) (said (Some l.1) ++ s) (said (Some m.1) ++ t) (behind ∙ ap (λ (n : Named). named_text n ++ (said (Some m.1) ++ t)) (sym names))) in
    let other : l.1 ≡ m.1 = words.0 in
    (λ i. (names i, other i), words.1)

abbrev pub AreSmall : List Line → Type 0
AreSmall [] = Unit {0}
AreSmall (l ∷ ls) = (l.1.grant < 2 ^ 64) × AreSmall ls

-- what follows begins as no such line does
one_list : (ls ms : List Line) (s t : List ℕ) → AreSmall ls → AreSmall ms → IsOther s → IsOther t → flat_map bare_text ls ++ s ≡ flat_map bare_text ms ++ t → (ls ≡ ms) × (s ≡ t)
one_list [] [] s t small also low too same = (refl, same)
one_list [] (m ∷ ms) s t small also low too same = absurd (omega (arith, low, ap first_byte same))
one_list (l ∷ ls) [] s t small also low too same = absurd (omega (arith, too, ap first_byte same))
one_list (l ∷ ls) (m ∷ ms) s t small also low too same =
    let both = one_line l m (flat_map bare_text ls ++ s) (flat_map bare_text ms ++ t) small.0 also.0
    (sym (append_assoc (bare_text l) (flat_map bare_text ls) s) ∙ same ∙ append_assoc (bare_text m) (flat_map bare_text ms) t) in
    let rest = one_list ls ms s t small.1 also.1 low too both.1 in
    let here : l ≡ m = both.0 in
    let more : ls ≡ ms = rest.0 in
    (λ i. here i ∷ more i, rest.1)

-- ---- the lines of three releases

abbrev line_if : Named → Option Otherwise → List Line
line_if n None = []
line_if n (Some o) = (n, o) ∷ []

-- by whether the same is said of the first and the second, and of the second and the third
abbrev lines_by : Bool → Bool → Option Otherwise → Option Otherwise → Option Otherwise → List Line
lines_by true true x y z = line_if each x
lines_by true false x y z = line_if first_two x ++ line_if twenty z
lines_by false true x y z = line_if sixteen x ++ line_if last_two y
lines_by false false x y z = line_if sixteen x ++ (line_if eighteen y ++ line_if twenty z)

some_text : (byte : ℕ) (more text : List ℕ) → (if length (byte ∷ more) == 0 then [] else text) ≡ text
some_text byte more text = ap (λ (none : Bool). if none then [] else text) (ne_eqb (length (byte ∷ more)) 0 (λ (e : suc (length more) ≡ 0). omega (arith, e)))

module _ (front : List ℕ) where
  abbrev text_by : Bool → Bool → List ℕ → List ℕ → List ℕ → List ℕ
  text_by one other x y z =
      if one then (if other then said_line front (codes "16, 18 and 20") x else said_line front (codes "16 and 18") x ++ said_line front (codes "20") z)
      else said_line front (codes "16") x ++ (if other then said_line front (codes "18 and 20") y else said_line front (codes "18") y ++ said_line front (codes "20") z)

  some_words : (n : Named) (allows : Bool) (rest : List ℕ) → said_line front (named_text n) (said_word allows ++ rest) ≡ front ++ (codes "the MDS of Ceph " ++ (named_text n ++ (said_word allows ++ rest)))
  some_words n true rest = some_text 32 (drop 1 (said_word true) ++ rest) (front ++ (codes "the MDS of Ceph " ++ (named_text n ++ (said_word true ++ rest))))
  some_words n false rest = some_text 32 (drop 1 (said_word false) ++ rest) (front ++ (codes "the MDS of Ceph " ++ (named_text n ++ (said_word false ++ rest))))

  line_is : (n : Named) (x : Option Otherwise) → said_line front (named_text n) (said x) ≡ flat_map (line_text front) (line_if n x)
  line_is n None = refl
  line_is n (Some o) = some_words n o.allows (reason_text o.reason ++ (codes " (grant " ++ (decimal o.grant ++ codes ")\n"))) ∙ sym (append-nil (line_text front (n, o)))

  both_are : (m n : Named) (x y : Option Otherwise) → said_line front (named_text m) (said x) ++ said_line front (named_text n) (said y) ≡ flat_map (line_text front) (line_if m x ++ line_if n y)
  both_are m n x y =
      ap (λ (r : List ℕ). r ++ said_line front (named_text n) (said y)) (line_is m x)
      ∙ ap (λ (r : List ℕ). flat_map (line_text front) (line_if m x) ++ r) (line_is n y)
      ∙ sym (flat_map-append (line_text front) (line_if m x) (line_if n y))

  lines_are : (one other : Bool) (x y z : Option Otherwise) → text_by one other (said x) (said y) (said z) ≡ flat_map (line_text front) (lines_by one other x y z)
  lines_are true true x y z = line_is each x
  lines_are true false x y z = both_are first_two twenty x z
  lines_are false true x y z = both_are sixteen last_two x y
  lines_are false false x y z =
      ap (λ (r : List ℕ). r ++ (said_line front (codes "18") (said y) ++ said_line front (codes "20") (said z))) (line_is sixteen x)
      ∙ ap (λ (r : List ℕ). flat_map (line_text front) (line_if sixteen x) ++ r) (both_are eighteen twenty y z)
      ∙ sym (flat_map-append (line_text front) (line_if sixteen x) (line_if eighteen y ++ line_if twenty z))

small_if : (n : Named) (x : Option Otherwise) (ls : List Line) → IsCounted x → AreSmall ls → AreSmall (line_if n x ++ ls)
small_if n None ls small rest = rest
small_if n (Some o) ls small rest = (small, rest)

small_one : (n : Named) (x : Option Otherwise) → IsCounted x → AreSmall (line_if n x)
small_one n None small = tt
small_one n (Some o) small = (small, tt)

are_small : (one other : Bool) (x y z : Option Otherwise) → IsCounted x → IsCounted y → IsCounted z → AreSmall (lines_by one other x y z)
are_small true true x y z p q r = small_one each x p
are_small true false x y z p q r = small_if first_two x (line_if twenty z) p (small_one twenty z r)
are_small false true x y z p q r = small_if sixteen x (line_if last_two y) p (small_one last_two y q)
are_small false false x y z p q r = small_if sixteen x (line_if eighteen y ++ line_if twenty z) p (small_if eighteen y (line_if twenty z) q (small_one twenty z r))

-- ---- back from the lines

abbrev of_pacific : Named → Bool
of_pacific each = true
of_pacific first_two = true
of_pacific sixteen = true
of_pacific n = false

abbrev of_reef : Named → Bool
of_reef each = true
of_reef first_two = true
of_reef last_two = true
of_reef eighteen = true
of_reef n = false

abbrev of_tentacle : Named → Bool
of_tentacle each = true
of_tentacle last_two = true
of_tentacle twenty = true
of_tentacle n = false

-- what is said of a release: by the first line that names it
abbrev told_of : (Named → Bool) → List Line → Option Otherwise
told_of names [] = None
told_of names (l ∷ ls) = if names l.0 then Some l.1 else told_of names ls

-- what the lines of three releases tell of each, where the same is said only of the same
record Tells (ls : List Line) (x y z : Option Otherwise) : Type 0 where
  first : told_of of_pacific ls ≡ x
  second : told_of of_reef ls ≡ y
  third : told_of of_tentacle ls ≡ z

by_one : (x : Option Otherwise) → Tells (line_if each x) x x x
by_one None = record { first = refl; second = refl; third = refl }
by_one (Some o) = record { first = refl; second = refl; third = refl }

by_first_two : (x z : Option Otherwise) → Tells (line_if first_two x ++ line_if twenty z) x x z
by_first_two None None = record { first = refl; second = refl; third = refl }
by_first_two None (Some o) = record { first = refl; second = refl; third = refl }
by_first_two (Some o) None = record { first = refl; second = refl; third = refl }
by_first_two (Some o) (Some e) = record { first = refl; second = refl; third = refl }

by_last_two : (x y : Option Otherwise) → Tells (line_if sixteen x ++ line_if last_two y) x y y
by_last_two None None = record { first = refl; second = refl; third = refl }
by_last_two None (Some o) = record { first = refl; second = refl; third = refl }
by_last_two (Some o) None = record { first = refl; second = refl; third = refl }
by_last_two (Some o) (Some e) = record { first = refl; second = refl; third = refl }

by_each : (x y z : Option Otherwise) → Tells (line_if sixteen x ++ (line_if eighteen y ++ line_if twenty z)) x y z
by_each None None None = record { first = refl; second = refl; third = refl }
by_each None None (Some c) = record { first = refl; second = refl; third = refl }
by_each None (Some b) None = record { first = refl; second = refl; third = refl }
by_each None (Some b) (Some c) = record { first = refl; second = refl; third = refl }
by_each (Some a) None None = record { first = refl; second = refl; third = refl }
by_each (Some a) None (Some c) = record { first = refl; second = refl; third = refl }
by_each (Some a) (Some b) None = record { first = refl; second = refl; third = refl }
by_each (Some a) (Some b) (Some c) = record { first = refl; second = refl; third = refl }

tells : (one other : Bool) (x y z : Option Otherwise) → (one ≡ true → x ≡ y) → (other ≡ true → y ≡ z) → Tells (lines_by one other x y z) x y z
tells true true x y z first second =
    subst (λ (w : Option Otherwise). Tells (line_if each x) x y w) (first refl ∙ second refl) (subst (λ (w : Option Otherwise). Tells (line_if each x) x w x) (first refl) (by_one x))
tells true false x y z first second = subst (λ (w : Option Otherwise). Tells (line_if first_two x ++ line_if twenty z) x w z) (first refl) (by_first_two x z)
tells false true x y z first second = subst (λ (w : Option Otherwise). Tells (line_if sixteen x ++ line_if last_two y) x y w) (second refl) (by_last_two x y)
tells false false x y z first second = by_each x y z

-- ---- all of it

same_said : (x y : Option Otherwise) → IsCounted x → IsCounted y → bytes_eq (said x) (said y) ≡ true → x ≡ y
same_said x y small also is = one_alone x y small also ((bytes_eq-Decides (said x) (said y)).0 is)

abbrev pub lines_of : Others → List Line
lines_of o = lines_by (bytes_eq (said o.pacific) (said o.reef)) (bytes_eq (said o.reef) (said o.tentacle)) o.pacific o.reef o.tentacle

lines_tell : (o : Others) → AreCounted o → Tells (lines_of o) o.pacific o.reef o.tentacle
lines_tell o fit = tells (bytes_eq (said o.pacific) (said o.reef)) (bytes_eq (said o.reef) (said o.tentacle)) o.pacific o.reef o.tentacle (same_said o.pacific o.reef fit.0 fit.1) (same_said o.reef o.tentacle fit.1 fit.2)

pub lines_small : (o : Others) → AreCounted o → AreSmall (lines_of o)
lines_small o fit = are_small (bytes_eq (said o.pacific) (said o.reef)) (bytes_eq (said o.reef) (said o.tentacle)) o.pacific o.reef o.tentacle fit.0 fit.1 fit.2

-- as one list of lines
pub in_list : (front : List ℕ) (o : Others) → others_lines front o ≡ flat_map (line_text front) (lines_of o)
in_list front o = lines_are front (bytes_eq (said o.pacific) (said o.reef)) (bytes_eq (said o.reef) (said o.tentacle)) o.pacific o.reef o.tentacle

-- they tell of each release
pub same_lines : (o p : Others) → AreCounted o → AreCounted p → lines_of o ≡ lines_of p → o ≡ p
same_lines o p fit fits lines =
    let here = lines_tell o fit in
    let there = lines_tell p fits in
    let pacific : o.pacific ≡ p.pacific = sym here.first ∙ ap (told_of of_pacific) lines ∙ there.first in
    let reef : o.reef ≡ p.reef = sym here.second ∙ ap (told_of of_reef) lines ∙ there.second in
    let tentacle : o.tentacle ≡ p.tentacle = sym here.third ∙ ap (told_of of_tentacle) lines ∙ there.third in
    λ i. record { pacific = pacific i; reef = reef i; tentacle = tentacle i }

one_others : (o p : Others) (s t : List ℕ) → AreCounted o → AreCounted p → IsOther s → IsOther t → others_lines [] o ++ s ≡ others_lines [] p ++ t → (o ≡ p) × (s ≡ t)
one_others o p s t fit fits low too same =
    let both =
    one_list (lines_of o) (lines_of p) s t (lines_small o fit) (lines_small p fits) low too
    (ap (λ (r : List ℕ). r ++ s) (sym (in_list [] o)) ∙ same ∙ ap (λ (r : List ℕ). r ++ t) (in_list [] p)) in
    (same_lines o p fit fits both.0, both.1)

-- no line begins as that of what is left to the client
no_left : (ls : List Line) (s : List ℕ) → IsOther s → first_byte (flat_map bare_text ls ++ s) ≡ 110 → ⊥
no_left [] s low is = omega (arith, low, is)
no_left (l ∷ ls) s low is = clash 110 116 (omega arith) (sym is)

not_judged : (o : Others) (s : List ℕ) → IsOther s → first_byte (others_lines [] o ++ s) ≡ 110 → ⊥
not_judged o s low is = no_left (lines_of o) s low (ap (λ (r : List ℕ). first_byte (r ++ s)) (sym (in_list [] o)) ∙ is)

in_full : (q : Question) (v : Verdict) (left : Option ℕ) (others : Others) (s : List ℕ)
    → beside_text q v left others ++ s ≡ answer_line q.access (path_text q.path) v ++ 10 ∷ (left_line q.attr left ++ (others_lines [] others ++ s))
in_full q v left others s =
    let answer : List ℕ = answer_line q.access (path_text q.path) v in
    append_assoc answer (codes "\n" ++ (left_line q.attr left ++ others_lines [] others)) s
    ∙ ap (λ (r : List ℕ). answer ++ 10 ∷ r) (append_assoc (left_line q.attr left) (others_lines [] others) s)

-- what the two texts tell
abbrev pub TellBeside : Question → Question → Verdict → Verdict → Option ℕ → Option ℕ → Others → Others → Type 0
TellBeside q r v w left also others further = (q.access ≡ r.access) × (path_text q.path ≡ path_text r.path) × (v ≡ w) × AreLeftAlike q.attr left r.attr also × (others ≡ further)

pub one_beside_to : (q r : Question) (v w : Verdict) (left also : Option ℕ) (others further : Others) (s t : List ℕ) → AreBeside q v left others → AreBeside r w also further → IsOther s → IsOther t
    → beside_text q v left others ++ s ≡ beside_text r w also further ++ t → TellBeside q r v w left also others further × (s ≡ t)
one_beside_to q r v w left also others further s t p o low too same =
    let behind : List ℕ = others_lines [] others ++ s in
    let and_behind : List ℕ = others_lines [] further ++ t in
    let answer = one_answer_to q.access r.access (path_text q.path) (path_text r.path) v w (left_line q.attr left ++ behind) (left_line r.attr also ++ and_behind) p.access o.access p.grant o.grant
    (sym (in_full q v left others s) ∙ same ∙ in_full r w also further t) in
    let client = one_left q.attr r.attr left also behind and_behind (p.owner, p.group, p.mode) (o.owner, o.group, o.mode) p.to_client o.to_client (not_judged others s low) (not_judged further t too) answer.3 in
    let beside = one_others others further s t (p.pacific, p.reef, p.tentacle) (o.pacific, o.reef, o.tentacle) low too client.1 in
    ((answer.0, answer.1, answer.2, client.0, beside.0), beside.1)

pub one_beside : (q r : Question) (v w : Verdict) (left also : Option ℕ) (others further : Others) → AreBeside q v left others → AreBeside r w also further
    → beside_text q v left others ≡ beside_text r w also further → TellBeside q r v w left also others further
one_beside q r v w left also others further p o same =
    (one_beside_to q r v w left also others further [] [] p o (omega arith) (omega arith) (ap (λ (text : List ℕ). text ++ []) same)).0
