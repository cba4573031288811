-- The lines of a comparison are those of one.
use Rattle.std.proofs.Common.{◌≡◌, ℕ, ◌+◌, ◌<◌, ◌≤◌, ◌^◌, ◌/◌, ◌%◌, Bool, true, not, nat_lt, Option, Some, None, List, [], ◌∷◌, ◌++◌, refl, sym, ap, ◌∙◌}
use Rattle.std.proofs.Common.{append_assoc, arith}
use Rattle.std.specs.Prelude.{All, IfSome, codes}
use Rattle.std.specs.Fmt.{decimal}
use Rattle.std.specs.List.{flat_map, list_all}
use Rattle.std.proofs.lemmas.Bool.{and_from, and_parts, false≢true, lt-ltb}
use Rattle.std.proofs.lemmas.Fmt.{decimal_by_steps, decimal_digit, decimal_injective}
use Rattle.std.proofs.lemmas.List.{append_cancel_left}
use Rattle.std.proofs.lemmas.List.Elements.{All-head, All-tail}
use Rattle.std.proofs.lemmas.List.Folds.{list_all-append}
use Rattle.capgrant.specs.Access.{access_word}
use Rattle.policy_analysis.specs.declared.witness.Witness.{Witness}
use Rattle.texts.specs.Comparing.{comparison, found_line, witness_text}
use Rattle.texts.specs.PartTexts.{groups_text, mode_text}
use Rattle.texts.specs.Explaining.{path_text}
use Rattle.texts.specs.Lines.{IsReported, SameIf, TellTheSame}
use Rattle.texts.specs.Quoting.{quoted}
use Rattle.texts.proofs.Answered.{parted}
use Rattle.texts.proofs.Quoted.{bare, clash, first_byte}

-- ---- digits, and what stops them

abbrev is_digit : ℕ → Bool
is_digit byte = nat_lt 47 byte

-- no digit is next
abbrev stops : List ℕ → Bool
stops [] = true
stops (byte ∷ more) = not (is_digit byte)

no_digit : {A : Type 0} (x : ℕ) (more s : List ℕ) → is_digit x ≡ true → stops s ≡ true → s ≡ x ∷ more → A
no_digit x more s digit stopped same = absurd (false≢true (sym (ap not digit) ∙ sym (ap stops same) ∙ stopped))

until : (xs ys s t : List ℕ) → list_all is_digit xs ≡ true → list_all is_digit ys ≡ true → stops s ≡ true → stops t ≡ true → xs ++ s ≡ ys ++ t → (xs ≡ ys) × (s ≡ t)
until [] [] s t p q stopped too same = (refl, same)
until [] (y ∷ ys) s t p q stopped too same = no_digit y (ys ++ t) s (and_parts (is_digit y) (list_all is_digit ys) q).0 stopped same
until (x ∷ xs) [] s t p q stopped too same = no_digit x (xs ++ s) t (and_parts (is_digit x) (list_all is_digit xs) p).0 too (sym same)
until (x ∷ xs) (y ∷ ys) s t p q stopped too same =
    let e : x ∷ (xs ++ s) ≡ y ∷ (ys ++ t) = same in
    let here : x ≡ y = ap first_byte e in
    let behind : xs ++ s ≡ ys ++ t = cc in
    let more = until xs ys s t (and_parts (is_digit x) (list_all is_digit xs) p).1 (and_parts (is_digit y) (list_all is_digit ys) q).1 stopped too behind in
    let rest : xs ≡ ys = more.0 in
    (cc, more.1)

are_digits : (n : ℕ) → n < 2 ^ 64 → list_all is_digit (decimal n) ≡ true
are_digits =
    decimal_by_steps (λ n ds. list_all is_digit ds ≡ true)
    (λ n below. and_from (is_digit (48 + n)) true (lt-ltb 47 (48 + n) (omega arith)) refl)
    (λ n ds large all. list_all-append is_digit ds ((48 + n % 10) ∷ []) ∙ and_from (list_all is_digit ds) (list_all is_digit ((48 + n % 10) ∷ [])) all (and_from (is_digit (48 + n % 10)) true (lt-ltb 47 (48 + n % 10) (omega arith)) refl))

-- ---- parts behind a word

number : (word : List ℕ) (m n : ℕ) (s t : List ℕ) → m < 2 ^ 32 → n < 2 ^ 32 → stops s ≡ true → stops t ≡ true → word ++ (decimal m ++ s) ≡ word ++ (decimal n ++ t) → (m ≡ n) × (s ≡ t)
number word m n s t small also stopped too same =
    let both = until (decimal m) (decimal n) s t (are_digits m (omega arith)) (are_digits n (omega arith)) stopped too (append_cancel_left word (decimal m ++ s) (decimal n ++ t) same) in
    (decimal_injective m n (omega arith) (omega arith) both.0, both.1)

abbrev further : List ℕ → List ℕ
further gids = flat_map (λ gid. codes "," ++ decimal gid) gids

stops_behind : (gids s : List ℕ) → stops s ≡ true → stops (further gids ++ s) ≡ true
stops_behind [] s stopped = stopped
stops_behind (gid ∷ gids) s stopped = refl

abbrev AreSmall : List ℕ → Type 0
AreSmall gids = All (λ gid. gid < 2 ^ 32) gids

in_row : (gid : ℕ) (gids s : List ℕ) → (decimal gid ++ further gids) ++ s ≡ decimal gid ++ (further gids ++ s)
in_row gid gids s = append_assoc (decimal gid) (further gids) s

more_groups : (xs ys s t : List ℕ) → AreSmall xs → AreSmall ys → further xs ++ 32 ∷ s ≡ further ys ++ 32 ∷ t → (xs ≡ ys) × (s ≡ t)
more_groups [] [] s t p q same = let e : 32 ∷ s ≡ 32 ∷ t = same in let rest : s ≡ t = cc in (refl, rest)
more_groups [] (y ∷ ys) s t p q same = clash 32 44 (omega arith) (ap first_byte same)
more_groups (x ∷ xs) [] s t p q same = clash 32 44 (omega arith) (sym (ap first_byte same))
more_groups (x ∷ xs) (y ∷ ys) s t p q same =
    let e : codes "," ++ (decimal x ++ (further xs ++ 32 ∷ s)) ≡ codes "," ++ (decimal y ++ (further ys ++ 32 ∷ t)) = ap (λ (r : List ℕ). codes "," ++ r) (sym (in_row x xs (32 ∷ s))) ∙ same ∙ ap (λ (r : List ℕ). codes "," ++ r) (in_row y ys (32 ∷ t)) in
    let one = number (codes ",") x y (further xs ++ 32 ∷ s) (further ys ++ 32 ∷ t) (All-head (λ gid. gid < 2 ^ 32) x xs p) (All-head (λ gid. gid < 2 ^ 32) y ys q) (stops_behind xs (32 ∷ s) refl) (stops_behind ys (32 ∷ t) refl) e in
    let more = more_groups xs ys s t (All-tail (λ gid. gid < 2 ^ 32) x xs p) (All-tail (λ gid. gid < 2 ^ 32) y ys q) one.1 in
    let here : x ≡ y = one.0 in
    let rest : xs ≡ ys = more.0 in
    (cc, more.1)

-- a dash is no number
no_dash : {A : Type 0} (y : ℕ) (ys s t : List ℕ) → AreSmall (y ∷ ys) → codes "-" ++ 32 ∷ s ≡ decimal y ++ (further ys ++ 32 ∷ t) → A
no_dash y ys s t q same =
    let both = until [] (decimal y) (codes "-" ++ 32 ∷ s) (further ys ++ 32 ∷ t) refl (are_digits y (let small = All-head (λ gid. gid < 2 ^ 32) y ys q in omega arith)) refl (stops_behind ys (32 ∷ t) refl) same in
    other ys both.1
  where
    other : {B : Type 0} (gids : List ℕ) → codes "-" ++ 32 ∷ s ≡ further gids ++ 32 ∷ t → B
    other [] e = clash 32 45 (omega arith) (sym (ap first_byte e))
    other (z ∷ zs) e = clash 44 45 (omega arith) (sym (ap first_byte e))

groups : (xs ys s t : List ℕ) → AreSmall xs → AreSmall ys → groups_text xs ++ 32 ∷ s ≡ groups_text ys ++ 32 ∷ t → (xs ≡ ys) × (s ≡ t)
groups [] [] s t p q same = let e : 45 ∷ 32 ∷ s ≡ 45 ∷ 32 ∷ t = same in let rest : s ≡ t = cc in (refl, rest)
groups [] (y ∷ ys) s t p q same = no_dash y ys s t q (same ∙ in_row y ys (32 ∷ t))
groups (x ∷ xs) [] s t p q same = no_dash x xs t s p (sym same ∙ in_row x xs (32 ∷ s))
groups (x ∷ xs) (y ∷ ys) s t p q same =
    let one = number [] x y (further xs ++ 32 ∷ s) (further ys ++ 32 ∷ t) (All-head (λ gid. gid < 2 ^ 32) x xs p) (All-head (λ gid. gid < 2 ^ 32) y ys q) (stops_behind xs (32 ∷ s) refl) (stops_behind ys (32 ∷ t) refl) (sym (in_row x xs (32 ∷ s)) ∙ same ∙ in_row y ys (32 ∷ t)) in
    let more = more_groups xs ys s t (All-tail (λ gid. gid < 2 ^ 32) x xs p) (All-tail (λ gid. gid < 2 ^ 32) y ys q) one.1 in
    let here : x ≡ y = one.0 in
    let rest : xs ≡ ys = more.0 in
    (cc, more.1)

-- ---- modes

abbrev digits_of : ℕ → List ℕ
digits_of m = (48 + m / 512) ∷ (48 + m / 64 % 8) ∷ (48 + m / 8 % 8) ∷ (48 + m % 8) ∷ []

as_digits : (m : ℕ) → m < 2 ^ 12 → mode_text m ≡ digits_of m
as_digits m small =
    rw (decimal_digit (m / 512) (omega arith), decimal_digit (m / 64 % 8) (omega arith), decimal_digit (m / 8 % 8) (omega arith), decimal_digit (m % 8) (omega arith)) refl

pub mode : (m n : ℕ) (s t : List ℕ) → m < 2 ^ 12 → n < 2 ^ 12 → mode_text m ++ s ≡ mode_text n ++ t → (m ≡ n) × (s ≡ t)
mode m n s t small also same =
    let digits : digits_of m ++ s ≡ digits_of n ++ t = ap (λ (w : List ℕ). w ++ s) (sym (as_digits m small)) ∙ same ∙ ap (λ (w : List ℕ). w ++ t) (as_digits n also) in
    let first : 48 + m / 512 ≡ 48 + n / 512 = cc in
    let second : 48 + m / 64 % 8 ≡ 48 + n / 64 % 8 = cc in
    let third : 48 + m / 8 % 8 ≡ 48 + n / 8 % 8 = cc in
    let last : 48 + m % 8 ≡ 48 + n % 8 = cc in
    let rest : s ≡ t = cc in
    (omega arith, rest)

pub one_mode : (m n : ℕ) → m < 2 ^ 12 → n < 2 ^ 12 → mode_text m ≡ mode_text n → m ≡ n
one_mode m n small also same = (mode m n [] [] small also (ap (λ (w : List ℕ). w ++ []) same)).0

-- ---- a witness, and what stands behind its line

abbrev asker_of : Witness → List ℕ → List ℕ
asker_of w rest = codes "uid " ++ (decimal w.caller.uid ++ 32 ∷ (codes "gid " ++ (decimal w.caller.gid ++ 32 ∷ (codes "groups " ++ (groups_text w.caller.groups ++ 32 ∷ rest)))))

abbrev owner_of : Witness → List ℕ → List ℕ
owner_of w rest = codes "owner " ++ (decimal w.attr.uid ++ 32 ∷ (codes "group " ++ (decimal w.attr.gid ++ 32 ∷ (codes "mode " ++ (mode_text w.attr.mode ++ 32 ∷ rest)))))

abbrev end_of : Witness → List ℕ → List ℕ
end_of w s = codes "grant " ++ (decimal w.grant ++ 10 ∷ s)

laid_out : (w : Witness) (s : List ℕ) → (witness_text w ++ codes "\n") ++ s ≡ access_word w.access ++ 32 ∷ (quoted (path_text w.path.now) ++ 32 ∷ (codes "fs " ++ (w.fs ++ 32 ∷ asker_of w (owner_of w (end_of w s)))))
laid_out w s = simp append_assoc

one_asker : (v w : Witness) (s t : List ℕ) → IsReported v → IsReported w → asker_of v s ≡ asker_of w t → (v.caller ≡ w.caller) × (s ≡ t)
one_asker v w s t reported too same =
    let uid = number (codes "uid ") v.caller.uid w.caller.uid (32 ∷ (codes "gid " ++ (decimal v.caller.gid ++ 32 ∷ (codes "groups " ++ (groups_text v.caller.groups ++ 32 ∷ s))))) (32 ∷ (codes "gid " ++ (decimal w.caller.gid ++ 32 ∷ (codes "groups " ++ (groups_text w.caller.groups ++ 32 ∷ t))))) reported.uid too.uid refl refl same in
    let gid = number (codes " gid ") v.caller.gid w.caller.gid (32 ∷ (codes "groups " ++ (groups_text v.caller.groups ++ 32 ∷ s))) (32 ∷ (codes "groups " ++ (groups_text w.caller.groups ++ 32 ∷ t))) reported.gid too.gid refl refl uid.1 in
    let all = groups v.caller.groups w.caller.groups s t reported.groups too.groups (append_cancel_left (codes " groups ") (groups_text v.caller.groups ++ 32 ∷ s) (groups_text w.caller.groups ++ 32 ∷ t) gid.1) in
    let one : v.caller.uid ≡ w.caller.uid = uid.0 in
    let two : v.caller.gid ≡ w.caller.gid = gid.0 in
    let three : v.caller.groups ≡ w.caller.groups = all.0 in
    (λ i. record { uid = one i; gid = two i; groups = three i }, all.1)

one_owner : (v w : Witness) (s t : List ℕ) → IsReported v → IsReported w → owner_of v s ≡ owner_of w t → (v.attr ≡ w.attr) × (s ≡ t)
one_owner v w s t reported too same =
    let uid = number (codes "owner ") v.attr.uid w.attr.uid (32 ∷ (codes "group " ++ (decimal v.attr.gid ++ 32 ∷ (codes "mode " ++ (mode_text v.attr.mode ++ 32 ∷ s))))) (32 ∷ (codes "group " ++ (decimal w.attr.gid ++ 32 ∷ (codes "mode " ++ (mode_text w.attr.mode ++ 32 ∷ t))))) reported.owner too.owner refl refl same in
    let gid = number (codes " group ") v.attr.gid w.attr.gid (32 ∷ (codes "mode " ++ (mode_text v.attr.mode ++ 32 ∷ s))) (32 ∷ (codes "mode " ++ (mode_text w.attr.mode ++ 32 ∷ t))) reported.group too.group refl refl uid.1 in
    let bits = mode v.attr.mode w.attr.mode (32 ∷ s) (32 ∷ t) reported.mode too.mode (append_cancel_left (codes " mode ") (mode_text v.attr.mode ++ 32 ∷ s) (mode_text w.attr.mode ++ 32 ∷ t) gid.1) in
    let one : v.attr.uid ≡ w.attr.uid = uid.0 in
    let two : v.attr.gid ≡ w.attr.gid = gid.0 in
    let three : v.attr.mode ≡ w.attr.mode = bits.0 in
    let tails : 32 ∷ s ≡ 32 ∷ t = bits.1 in
    let rest : s ≡ t = cc in
    (λ i. record { uid = one i; gid = two i; mode = three i }, rest)

one_end : (v w : Witness) (s t : List ℕ) → IsReported v → IsReported w → end_of v s ≡ end_of w t → (v.grant ≡ w.grant) × (s ≡ t)
one_end v w s t reported too same =
    let grant = number (codes "grant ") v.grant w.grant (10 ∷ s) (10 ∷ t) reported.grant too.grant refl refl same in
    let tails : 10 ∷ s ≡ 10 ∷ t = grant.1 in
    let rest : s ≡ t = cc in
    (grant.0, rest)

pub one_witness : (v w : Witness) (s t : List ℕ) → IsReported v → IsReported w → (witness_text v ++ codes "\n") ++ s ≡ (witness_text w ++ codes "\n") ++ t → TellTheSame v w × (s ≡ t)
one_witness v w s t reported too same =
    let asked = parted v.access w.access (path_text v.path.now) (path_text w.path.now) (codes "fs " ++ (v.fs ++ 32 ∷ asker_of v (owner_of v (end_of v s)))) (codes "fs " ++ (w.fs ++ 32 ∷ asker_of w (owner_of w (end_of w t)))) reported.access too.access
    (sym (laid_out v s) ∙ same ∙ laid_out w t) in
    let fs = bare v.fs w.fs (asker_of v (owner_of v (end_of v s))) (asker_of w (owner_of w (end_of w t))) reported.fs too.fs (append_cancel_left (codes "fs ") (v.fs ++ 32 ∷ asker_of v (owner_of v (end_of v s))) (w.fs ++ 32 ∷ asker_of w (owner_of w (end_of w t))) asked.2) in
    let asker = one_asker v w (owner_of v (end_of v s)) (owner_of w (end_of w t)) reported too fs.1 in
    let owner = one_owner v w (end_of v s) (end_of w t) reported too asker.1 in
    let end = one_end v w s t reported too owner.1 in
    ((asked.0, asked.1, fs.0, asker.0, owner.0, end.0), end.1)

-- ---- both lines

-- What stands behind is no such line: it is empty, or begins with a lower byte.

one_loss : (l m : Option Witness) (s t : List ℕ) → IfSome l IsReported → IfSome m IsReported → first_byte s ≤ 98 → first_byte t ≤ 98 → found_line (codes "lost: ") l ++ s ≡ found_line (codes "lost: ") m ++ t → SameIf l m × (s ≡ t)
one_loss None None s t reported too low also same = (tt, same)
one_loss None (Some w) s t reported too low also same = clash (first_byte s) 108 (omega (arith, low)) (ap first_byte same)
one_loss (Some v) None s t reported too low also same = clash (first_byte t) 108 (omega (arith, also)) (sym (ap first_byte same))
one_loss (Some v) (Some w) s t reported too low also same =
    let behind = append_cancel_left (codes "lost: ") ((witness_text v ++ codes "\n") ++ s) ((witness_text w ++ codes "\n") ++ t) same in
    one_witness v w s t reported too behind

gained_line : (w : Witness) (l : Option Witness) (s : List ℕ) → comparison (Some w) l ++ s ≡ codes "gained: " ++ ((witness_text w ++ codes "\n") ++ (found_line (codes "lost: ") l ++ s))
gained_line w l s = ap (λ (r : List ℕ). codes "gained: " ++ r) (append_assoc (witness_text w ++ codes "\n") (found_line (codes "lost: ") l) s)

pub one_comparison_before : (g h l m : Option Witness) (s t : List ℕ) → IfSome g IsReported → IfSome h IsReported → IfSome l IsReported → IfSome m IsReported → first_byte s ≤ 98 → first_byte t ≤ 98
    → comparison g l ++ s ≡ comparison h m ++ t → (SameIf g h × SameIf l m) × (s ≡ t)
one_comparison_before None None None None s t a b c d low also same = ((tt, tt), append_cancel_left (codes "the same\n") s t same)
one_comparison_before None None None (Some w) s t a b c d low also same = clash 108 116 (omega arith) (sym (ap first_byte same))
one_comparison_before None None (Some v) None s t a b c d low also same = clash 108 116 (omega arith) (ap first_byte same)
one_comparison_before None None (Some v) (Some w) s t a b c d low also same =
    let both = one_loss (Some v) (Some w) s t c d low also same in
    ((tt, both.0), both.1)
one_comparison_before None (Some h) None m s t a b c d low also same = clash 103 116 (omega arith) (sym (ap first_byte (same ∙ gained_line h m t)))
one_comparison_before None (Some h) (Some v) m s t a b c d low also same = clash 103 108 (omega arith) (sym (ap first_byte (same ∙ gained_line h m t)))
one_comparison_before (Some g) None l None s t a b c d low also same = clash 103 116 (omega arith) (ap first_byte (sym (gained_line g l s) ∙ same))
one_comparison_before (Some g) None l (Some w) s t a b c d low also same = clash 103 108 (omega arith) (ap first_byte (sym (gained_line g l s) ∙ same))
one_comparison_before (Some g) (Some h) l m s t a b c d low also same =
    let behind = append_cancel_left (codes "gained: ") _ _ (sym (gained_line g l s) ∙ same ∙ gained_line h m t) in
    let first = one_witness g h (found_line (codes "lost: ") l ++ s) (found_line (codes "lost: ") m ++ t) a b behind in
    let both = one_loss l m s t c d low also first.1 in
    ((first.0, both.0), both.1)

pub one_comparison : (g h l m : Option Witness) → IfSome g IsReported → IfSome h IsReported → IfSome l IsReported → IfSome m IsReported → comparison g l ≡ comparison h m → SameIf g h × SameIf l m
one_comparison g h l m a b c d same = (one_comparison_before g h l m [] [] a b c d (omega arith) (omega arith) (ap (λ (r : List ℕ). r ++ []) same)).0
