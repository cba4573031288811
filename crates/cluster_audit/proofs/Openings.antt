-- Of which kind a line of an audit is, by what its words begin with.
use Rattle.std.proofs.Common.{◌≡◌, ℕ, ◌<◌, ◌^◌, ◌==◌, Bool, true, false, cond, Option, Some, None, List, [], ◌∷◌, ◌++◌, drop, refl, ap, ◌∙◌, append_assoc}
use Rattle.std.proofs.Common.{arith}
use Rattle.std.specs.Prelude.{codes}
use Rattle.std.specs.Fmt.{decimal}
use Rattle.std.specs.List.{enumerate_from, flat_map, list_all}
use Rattle.capbits.specs.Caps.{Caps}
use Rattle.capbits.specs.Text.{text_of}
use Rattle.capspec.specs.declared.fault.SpecFaultKind.{SpecFaultKind}
use Rattle.capspec.specs.declared.fault.SpecFaultKind.TheVariants as kinds
use Rattle.capgrant.specs.declared.access.Access.{Access}
use Rattle.capgrant.specs.Access.{access_word}
use Rattle.release_rules.specs.declared.release.Release.{Release}
use Rattle.release_rules.specs.declared.rule.Rule.{Rule}
use Rattle.release_rules.specs.Releases.{version_of}
use Rattle.release_rules.specs.Rules.{rule_number, rule_word}
use Rattle.texts.specs.Explaining.{path_text}
use Rattle.texts.specs.Mds.{mds_failure}
use Rattle.texts.specs.Quoting.{escaped, is_plain, quoted}
use Rattle.texts.specs.Standing.{fault_word}
use Rattle.texts.proofs.Quoted.{first_byte}
use Rattle.cluster_audit.specs.declared.findings.Denial.{Denial}
use Rattle.cluster_audit.specs.declared.notes.Detail.TheVariants.{Each, Groups}
use Rattle.cluster_audit.specs.Lines.{holder_text, on_inode, place_text, told_text, why_text}
use Rattle.cluster_audit.specs.Reported.{access_of, rules_told}
use Rattle.cluster_audit.proofs.Denials.{has_told}
use Rattle.cluster_audit.proofs.Words.{digit_first, is_digit}
use Rattle.cluster_audit.proofs.Spaces.{behind, past_caps, past_number, past_plain, past_quoted}

-- ---- what a text begins with

-- one digit stands for all
abbrev leading : List ℕ → ℕ
leading text = cond (is_digit (first_byte text)) 48 (first_byte text)

leading_digit : (n : ℕ) (s : List ℕ) → n < 2 ^ 64 → leading (decimal n ++ s) ≡ 48
leading_digit n s small =
    let is : is_digit (first_byte (decimal n ++ s)) ≡ true = digit_first n small s in
    λ i. cond (is i) 48 (first_byte (decimal n ++ s))

-- the first byte, behind a quote
abbrev pub opening : List ℕ → ℕ
opening [] = 0
opening (b ∷ more) = cond (b == 34) (first_byte more) b

opening_slash : (xs s : List ℕ) → opening (quoted (47 ∷ xs) ++ s) ≡ 47
opening_slash xs s =
    elim (list_all is_plain xs) as (λ b. opening (cond b (47 ∷ xs) (codes "\"" ++ (flat_map escaped (47 ∷ xs) ++ codes "\"")) ++ s) ≡ 47) [ true ↦ refl | false ↦ refl ]

pub opening_path : (p : List (List ℕ)) (s : List ℕ) → opening (quoted (path_text p) ++ s) ≡ 47
opening_path [] s = refl
opening_path (name ∷ names) s = opening_slash (name ++ flat_map (λ (n : List ℕ). codes "/" ++ n) names) s

abbrev sixth : List ℕ → ℕ
sixth text = first_byte (drop 5 text)

abbrev seventh : List ℕ → ℕ
seventh text = first_byte (drop 6 text)

abbrev word_3 : List ℕ → List ℕ
word_3 text = behind (behind (behind text))

abbrev word_6 : List ℕ → List ℕ
word_6 text = behind (behind (behind (behind (behind (behind text)))))

-- ---- the kind

-- of a line that begins with a path: by its fourth word, and its seventh
abbrev by_session : ℕ → ℕ
by_session last = cond (last == 109) 1 (cond (last == 105) 8 (cond (last == 77) 14 3))

abbrev by_place : ℕ → ℕ → ℕ → ℕ
by_place third last other = cond (third == 48) (by_session last) (cond (third == 104) 3 other)

-- of one whose second word is no number
abbrev by_word : ℕ → ℕ → ℕ → ℕ
by_word first colon other = cond (first == 104) 4 (cond (first == 110) 6 (cond (first == 103) (cond (colon == 58) 7 2) (cond (first == 97) 2 (cond (first == 102) 10 (cond (first == 119) 15 (cond (first == 114) 15 other))))))

-- of one whose second word is a number
abbrev by_number : ℕ → ℕ → ℕ → ℕ → ℕ
by_number start letter second third = cond (start == 103) 2 (cond (start == 99) (cond (second == 104) 4 5) (cond (start == 105) (cond (letter == 115) 11 (cond (third == 112) 9 (cond (third == 106) 13 3))) (cond (start == 115) 12 0)))

abbrev number_of : List ℕ → ℕ
number_of text = by_number (opening text) (sixth text) (leading (behind (behind text))) (leading (word_3 text))

abbrev word_of : List ℕ → ℕ
word_of text = by_word (leading (behind text)) (seventh (behind text)) (number_of text)

pub kind_of : List ℕ → ℕ
kind_of text = cond (opening text == 47) (by_place (leading (word_3 text)) (leading (word_6 text)) (word_of text)) (word_of text)

pub none : kind_of [] ≡ 0
unfolding kind_of
none = refl

at_place : (text : List ℕ) (third last : ℕ) → opening text ≡ 47 → leading (word_3 text) ≡ third → leading (word_6 text) ≡ last → kind_of text ≡ by_place third last (word_of text)
unfolding kind_of
at_place text third last begins three six = λ i. cond (begins i == 47) (by_place (three i) (six i) (word_of text)) (word_of text)

either : (b : Bool) (n : ℕ) → cond b n n ≡ n
either true n = refl
either false n = refl

at_word : (text : List ℕ) (first colon third : ℕ) → leading (behind text) ≡ first → seventh (behind text) ≡ colon → leading (word_3 text) ≡ third → (third == 48) ≡ false → (third == 104) ≡ false
    → kind_of text ≡ by_word first colon (number_of text)
unfolding kind_of
at_word text first colon third one mark three no_number no_holds =
    let kind : ℕ = by_word first colon (number_of text) in
    let paths : ℕ = by_session (leading (word_6 text)) in
    let looked : kind_of text ≡ cond (opening text == 47) (by_place third (leading (word_6 text)) kind) kind =
    λ i. cond (opening text == 47) (by_place (three i) (leading (word_6 text)) (by_word (one i) (mark i) (number_of text))) (by_word (one i) (mark i) (number_of text)) in
    let no_place : cond (opening text == 47) (by_place third (leading (word_6 text)) kind) kind ≡ cond (opening text == 47) kind kind =
    λ i. cond (opening text == 47) (cond (no_number i) paths (cond (no_holds i) 3 kind)) kind in
    looked ∙ no_place ∙ either (opening text == 47) kind

at_number : (text : List ℕ) (n : ℕ) (s : List ℕ) → n < 2 ^ 64 → (opening text == 47) ≡ false → behind text ≡ decimal n ++ s → kind_of text ≡ number_of text
unfolding kind_of
at_number text n s small no_path is =
    let digits : leading (behind text) ≡ 48 = ap leading is ∙ leading_digit n s small in
    λ i. cond (no_path i) (by_place (leading (word_3 text)) (leading (word_6 text)) (by_word (digits i) (seventh (behind text)) (number_of text))) (by_word (digits i) (seventh (behind text)) (number_of text))

-- ---- lines whose first word is a path

module _ (path : List (List ℕ)) (n : ℕ) (small : n < 2 ^ 64) where
  -- in a session that tells a name, and behind it some words
  in_session : (client rest : List ℕ) (last : ℕ) → leading (behind (behind rest)) ≡ last → kind_of (quoted (path_text path) ++ 32 ∷ (quoted client ++ 32 ∷ (codes "session " ++ (decimal n ++ 32 ∷ rest)))) ≡ by_session last
  in_session client rest last is =
      let session : List ℕ = codes "session " ++ (decimal n ++ 32 ∷ rest) in
      let text : List ℕ = quoted (path_text path) ++ 32 ∷ (quoted client ++ 32 ∷ session) in
      let one : behind text ≡ quoted client ++ 32 ∷ session = past_quoted (path_text path) (32 ∷ (quoted client ++ 32 ∷ session)) in
      let two : behind (behind text) ≡ session = ap behind one ∙ past_quoted client (32 ∷ session) in
      let three : word_3 text ≡ decimal n ++ 32 ∷ rest = ap behind two in
      let four : behind (word_3 text) ≡ rest = ap behind three ∙ past_number n (32 ∷ rest) small in
      let six : word_6 text ≡ behind (behind rest) = ap (λ (w : List ℕ). behind (behind w)) four in
      at_place text 48 last (opening_path path (32 ∷ (quoted client ++ 32 ∷ session))) (ap leading three ∙ leading_digit n (32 ∷ rest) small) (ap leading six ∙ is)

module _ (path : List (List ℕ)) (n : ℕ) (small : n < 2 ^ 64) (s : List ℕ) where
  abbrev held_by : List ℕ
  held_by = decimal n ++ 32 ∷ (codes "holds " ++ s)

  named : (client : List ℕ) (last : ℕ) → leading (behind s) ≡ last → kind_of (quoted (path_text path) ++ 32 ∷ (quoted client ++ 32 ∷ (codes "session " ++ held_by))) ≡ by_session last
  named client last is = in_session path n small client (codes "holds " ++ s) last is

  -- and in one that tells none
  unnamed : kind_of (quoted (path_text path) ++ 32 ∷ (codes "client " ++ held_by)) ≡ 3
  unnamed =
      let text : List ℕ = quoted (path_text path) ++ 32 ∷ (codes "client " ++ held_by) in
      let one : behind text ≡ codes "client " ++ held_by = past_quoted (path_text path) (32 ∷ (codes "client " ++ held_by)) in
      let two : behind (behind text) ≡ held_by = ap behind one in
      let three : word_3 text ≡ codes "holds " ++ s = ap behind two ∙ past_number n (32 ∷ (codes "holds " ++ s)) small in
      at_place text 104 (leading (word_6 text)) (opening_path path (32 ∷ (codes "client " ++ held_by))) (ap leading three) refl

-- a path, a client and its session
pub place_is : (p : List (List ℕ)) (c : List ℕ) (n : ℕ) (s : List ℕ) → place_text p c n ++ s ≡ quoted (path_text p) ++ 32 ∷ (quoted c ++ 32 ∷ (codes "session " ++ (decimal n ++ s)))
place_is p c n s = end_behind (quoted (path_text p)) (quoted c) (decimal n) s
  where
    end_behind : (q d m t : List ℕ) → (q ++ (codes " " ++ (d ++ (codes " session " ++ m)))) ++ t ≡ q ++ 32 ∷ (d ++ 32 ∷ (codes "session " ++ (m ++ t)))
    end_behind q d m t = simp append_assoc

pub of_held : (p : List (List ℕ)) (c : List ℕ) (n : ℕ) (caps : Caps) (s : List ℕ) → n < 2 ^ 64 → kind_of (place_text p c n ++ (codes " holds " ++ (text_of caps ++ (codes ", may not " ++ s)))) ≡ 1
of_held p c n caps s small =
    let rest : List ℕ = text_of caps ++ (codes ", may not " ++ s) in
    ap kind_of (place_is p c n (codes " holds " ++ rest)) ∙ named p n small rest c 109 (ap leading (past_caps caps (codes ", may not " ++ s)))

pub of_unknown : (p : List (List ℕ)) (c : List ℕ) (n : ℕ) (s : List ℕ) → n < 2 ^ 64 → kind_of (place_text p c n ++ (codes " holds what is " ++ s)) ≡ 8
of_unknown p c n s small =
    let rest : List ℕ = codes "what is " ++ s in
    ap kind_of (place_is p c n (codes " holds " ++ rest)) ∙ named p n small rest c 105 refl

pub on_path : (p : List (List ℕ)) (m n : ℕ) (name : Option (List ℕ)) (caps : Caps) (s : List ℕ) → n < 2 ^ 64
    → kind_of (on_inode Each m (Some p) ++ (holder_text Each n name ++ (codes " holds " ++ (text_of caps ++ (codes " beside " ++ s))))) ≡ 3
on_path p m n None caps s small =
    let rest : List ℕ = text_of caps ++ (codes " beside " ++ s) in
    ap kind_of (append_assoc (quoted (path_text p)) (codes " ") (holder_text Each n None ++ (codes " holds " ++ rest))) ∙ unnamed p n small rest
on_path p m n (Some c) caps s small =
    let rest : List ℕ = text_of caps ++ (codes " beside " ++ s) in
    ap kind_of (append_assoc (quoted (path_text p)) (codes " ") (holder_text Each n (Some c) ++ (codes " holds " ++ rest)))
    ∙ ap (λ (w : List ℕ). kind_of (quoted (path_text p) ++ 32 ∷ w)) (append_assoc (quoted c) (codes " session " ++ decimal n) (codes " holds " ++ rest))
    ∙ named p n small rest c 98 (ap leading (past_caps caps (codes " beside " ++ s)))

-- what the MDS of releases says of it otherwise
pub of_otherwise : (p : List (List ℕ)) (c : List ℕ) (n : ℕ) (writes : Bool) (s : List ℕ) → n < 2 ^ 64 → kind_of (place_text p c n ++ 32 ∷ (access_word (access_of writes) ++ (codes ": the MDS of Ceph " ++ s))) ≡ 14
of_otherwise p c n true s small =
    let rest : List ℕ = codes "write: the MDS of Ceph " ++ s in
    ap kind_of (place_is p c n (32 ∷ rest)) ∙ in_session p n small c rest 77 refl
of_otherwise p c n false s small =
    let rest : List ℕ = codes "read: the MDS of Ceph " ++ s in
    ap kind_of (place_is p c n (32 ∷ rest)) ∙ in_session p n small c rest 77 refl

-- ---- groups

behind_client : (client rest : List ℕ) (first : ℕ) → leading rest ≡ first → leading (behind (behind rest)) ≡ 77 → kind_of (quoted client ++ 32 ∷ rest) ≡ by_word first (seventh (behind (quoted client ++ 32 ∷ rest))) (number_of (quoted client ++ 32 ∷ rest))
behind_client client rest first is third =
    let text : List ℕ = quoted client ++ 32 ∷ rest in
    let one : behind text ≡ rest = past_quoted client (32 ∷ rest) in
    at_word text first (seventh (behind text)) 77 (ap leading one ∙ is) refl (ap (λ (w : List ℕ). leading (behind (behind w))) one ∙ third) refl refl

pub of_otherwise_group : (c : List ℕ) (writes : Bool) (s : List ℕ) → kind_of (quoted c ++ 32 ∷ (access_word (access_of writes) ++ (codes ": the MDS of Ceph " ++ s))) ≡ 15
of_otherwise_group c true s = behind_client c (codes "write: the MDS of Ceph " ++ s) 119 refl refl
of_otherwise_group c false s = behind_client c (codes "read: the MDS of Ceph " ++ s) 114 refl refl

grant_first : (one rule n space word more s : List ℕ) → (((((one ++ rule) ++ n) ++ space) ++ word) ++ more) ++ s ≡ one ++ (rule ++ (n ++ (space ++ (word ++ (more ++ s)))))
grant_first one rule n space word more s = simp append_assoc

of_told : (told : Option (List Rule)) (s : List ℕ) → kind_of (told_text told ++ 32 ∷ s) ≡ 2
unfolding kind_of
of_told None s = refl
of_told (Some []) s = refl
of_told (Some (r ∷ rs)) s =
    let n : List ℕ = decimal (rule_number r) in
    let more : List ℕ = flat_map (λ (f : ℕ × Rule). codes ", " ++ mds_failure f) (enumerate_from 2 rs) in
    at_number (told_text (Some (r ∷ rs)) ++ 32 ∷ s) 1 (codes " rule " ++ (n ++ (codes " " ++ (rule_word r ++ (more ++ 32 ∷ s))))) (omega arith) refl
    (grant_first (decimal 1) (codes " rule ") n (codes " ") (rule_word r) more (32 ∷ s))

pub of_group : (missing : Option Access) (d : Denial) (s : List ℕ) → kind_of (why_text missing d ++ 32 ∷ s) ≡ 2
unfolding kind_of
of_group None d s = refl
of_group (Some access) d s = ap (λ (w : List ℕ). kind_of (w ++ 32 ∷ s)) (has_told d) ∙ of_told (rules_told d) s

-- two clients, of which the first tells a name or none
pub of_conflict_text : (n : ℕ) (name : Option (List ℕ)) (caps : Caps) (s : List ℕ) → n < 2 ^ 64 → kind_of (holder_text Groups n name ++ (codes " holds " ++ (text_of caps ++ (codes " beside " ++ s)))) ≡ 4
of_conflict_text n None caps s small =
    let rest : List ℕ = text_of caps ++ (codes " beside " ++ s) in
    let text : List ℕ = codes "client " ++ (decimal n ++ (codes " holds " ++ rest)) in
    let second : leading (behind (behind text)) ≡ 104 = ap leading (past_number n (codes " holds " ++ rest) small) in
    let looked : number_of text ≡ 4 = λ i. by_number 99 (sixth text) (second i) (leading (word_3 text)) in
    at_number text n (codes " holds " ++ rest) small refl refl ∙ looked
of_conflict_text n (Some client) caps s small =
    let rest : List ℕ = text_of caps ++ (codes " beside " ++ s) in
    let text : List ℕ = quoted client ++ (codes " holds " ++ rest) in
    let one : behind text ≡ codes "holds " ++ rest = past_quoted client (codes " holds " ++ rest) in
    let three : word_3 text ≡ codes "beside " ++ s = ap (λ (w : List ℕ). behind (behind w)) one ∙ past_caps caps (codes " beside " ++ s) in
    at_word text 104 (seventh (behind text)) 98 (ap leading one) refl (ap leading three) refl refl

-- ---- inodes without a path

pub of_pathless : (n : ℕ) (s : List ℕ) → n < 2 ^ 64 → kind_of (codes "inode " ++ (decimal n ++ (codes ": no path: " ++ s))) ≡ 9
of_pathless n s small =
    let text : List ℕ = codes "inode " ++ (decimal n ++ (codes ": no path: " ++ s)) in
    let two : behind (behind text) ≡ codes "no path: " ++ s = past_number n (codes ": no path: " ++ s) small in
    let third : leading (word_3 text) ≡ 112 = ap (λ (w : List ℕ). leading (behind w)) two in
    let looked : number_of text ≡ 9 = λ i. by_number 105 32 (leading (behind (behind text))) (third i) in
    at_number text n (codes ": no path: " ++ s) small refl refl ∙ looked

-- what holds something there leads on to a session or to a number
third_word : (n : ℕ) (name : Option (List ℕ)) (s : List ℕ) → n < 2 ^ 64 → (k l : ℕ) → cond (leading (behind (holder_text Each n name ++ s)) == 112) k (cond (leading (behind (holder_text Each n name ++ s)) == 106) l 3) ≡ 3
third_word n None s small k l =
    let is : leading (behind (holder_text Each n None ++ s)) ≡ 48 = leading_digit n s small in
    λ i. cond (is i == 112) k (cond (is i == 106) l 3)
third_word n (Some client) s small k l =
    let is : leading (behind (holder_text Each n (Some client) ++ s)) ≡ 115 =
    ap (λ (w : List ℕ). leading (behind w)) (append_assoc (quoted client) (codes " session " ++ decimal n) s) ∙ ap leading (past_quoted client (codes " session " ++ (decimal n ++ s))) in
    λ i. cond (is i == 112) k (cond (is i == 106) l 3)

pub on_number : (m n : ℕ) (name : Option (List ℕ)) (s : List ℕ) → m < 2 ^ 64 → n < 2 ^ 64 → kind_of (codes "inode " ++ (decimal m ++ 32 ∷ (holder_text Each n name ++ s))) ≡ 3
on_number m n name s small also =
    let rest : List ℕ = holder_text Each n name ++ s in
    let text : List ℕ = codes "inode " ++ (decimal m ++ 32 ∷ rest) in
    let two : behind (behind text) ≡ rest = past_number m (32 ∷ rest) small in
    let three : leading (word_3 text) ≡ leading (behind rest) = ap (λ (w : List ℕ). leading (behind w)) two in
    let looked : number_of text ≡ cond (leading (behind rest) == 112) 9 (cond (leading (behind rest) == 106) 13 3) = λ i. by_number 105 32 (leading (behind (behind text))) (three i) in
    at_number text m (32 ∷ rest) small refl refl ∙ looked ∙ third_word n name s also 9 13

-- ---- names, and inodes that were unlinked

pub of_unlinked : (n : ℕ) (s : List ℕ) → n < 2 ^ 64 → kind_of (codes "inode " ++ (decimal n ++ (codes ": unlinked, judged as " ++ s))) ≡ 13
of_unlinked n s small =
    let text : List ℕ = codes "inode " ++ (decimal n ++ (codes ": unlinked, judged as " ++ s)) in
    let two : behind (behind text) ≡ codes "unlinked, judged as " ++ s = past_number n (codes ": unlinked, judged as " ++ s) small in
    let third : leading (word_3 text) ≡ 106 = ap (λ (w : List ℕ). leading (behind w)) two in
    let looked : number_of text ≡ 13 = λ i. by_number 105 32 (leading (behind (behind text))) (third i) in
    at_number text n (codes ": unlinked, judged as " ++ s) small refl refl ∙ looked

pub of_renamed : (n : ℕ) (s : List ℕ) → n < 2 ^ 64 → kind_of (codes "session " ++ (decimal n ++ (codes ": " ++ s))) ≡ 12
of_renamed n s small = at_number (codes "session " ++ (decimal n ++ (codes ": " ++ s))) n (codes ": " ++ s) small refl refl

-- ---- who could not be judged

pub of_unnamed : (n : ℕ) (s : List ℕ) → n < 2 ^ 64 → kind_of (codes "client " ++ (decimal n ++ (codes ": no session names it\n" ++ s))) ≡ 5
of_unnamed n s small =
    let rest : List ℕ = codes ": no session names it\n" ++ s in
    let text : List ℕ = codes "client " ++ (decimal n ++ rest) in
    let second : leading (behind (behind text)) ≡ 110 = ap leading (past_number n rest small) in
    let looked : number_of text ≡ 5 = λ i. by_number 99 (sixth text) (second i) (leading (word_3 text)) in
    at_number text n rest small refl refl ∙ looked

pub of_unlisted : (client s : List ℕ) → kind_of (quoted client ++ (codes ": no entry in the auth list\n" ++ s)) ≡ 6
of_unlisted client s =
    let text : List ℕ = quoted client ++ (codes ": no entry in the auth list\n" ++ s) in
    let one : behind text ≡ codes "no entry in the auth list\n" ++ s = past_quoted client (codes ": no entry in the auth list\n" ++ s) in
    at_word text 110 114 105 (ap leading one) (ap seventh one) (ap (λ (w : List ℕ). leading (behind (behind w))) one) refl refl

pub plain_fault : (k : SpecFaultKind) → list_all is_plain (fault_word k) ≡ true
plain_fault kinds.Empty = refl
plain_fault k = refl

pub of_unread : (client : List ℕ) (k : SpecFaultKind) (s : List ℕ) → kind_of (quoted client ++ (codes ": grants: " ++ (fault_word k ++ (codes " at " ++ s)))) ≡ 7
of_unread client k s =
    let rest : List ℕ = codes "grants: " ++ (fault_word k ++ (codes " at " ++ s)) in
    let text : List ℕ = quoted client ++ (codes ": " ++ rest) in
    let one : behind text ≡ rest = past_quoted client (codes ": " ++ rest) in
    let three : word_3 text ≡ codes "at " ++ s = ap (λ (w : List ℕ). behind (behind w)) one ∙ past_plain (fault_word k) (codes " at " ++ s) (plain_fault k) in
    at_word text 103 58 97 (ap leading one) (ap seventh one) (ap leading three) refl refl

pub of_unread_there : (client : List ℕ) (release : Release) (s : List ℕ) → kind_of (quoted client ++ (codes ": grants: not read by Ceph " ++ (version_of release ++ s))) ≡ 7
of_unread_there client release s =
    let rest : List ℕ = codes "grants: not read by Ceph " ++ (version_of release ++ s) in
    let text : List ℕ = quoted client ++ (codes ": " ++ rest) in
    let one : behind text ≡ rest = past_quoted client (codes ": " ++ rest) in
    let three : word_3 text ≡ codes "read by Ceph " ++ (version_of release ++ s) = ap (λ (w : List ℕ). behind (behind w)) one in
    at_word text 103 58 114 (ap leading one) (ap seventh one) (ap leading three) refl refl

-- ---- the last two

pub of_nothing : (s : List ℕ) → kind_of (codes "nothing found\n" ++ s) ≡ 10
unfolding kind_of
of_nothing s = refl

pub of_summary : (n : ℕ) (s : List ℕ) → n < 2 ^ 64 → kind_of (codes "inodes " ++ (decimal n ++ s)) ≡ 11
of_summary n s small = at_number (codes "inodes " ++ (decimal n ++ s)) n s small refl refl
