-- Answers with what releases tell behind them are told apart by their text.
use Rattle.std.proofs.Common.{◌≡◌, ◌≢◌, ◌≤◌, ℕ, Bool, true, false, Option, Some, None, List, [], ◌∷◌, ◌++◌, drop, refl, sym, ap, subst, ◌∙◌, append_assoc, append-nil, arith}
use Rattle.std.specs.Prelude.{IfSome, codes, is_some, if◌then◌else◌}
use Rattle.std.specs.Fmt.{decimal}
use Rattle.std.proofs.lemmas.List.{append_cancel_left}
use Rattle.policy_analysis.specs.declared.witness.Witness.{Witness}
use Rattle.release_rules.specs.declared.release.Release.{Release}
use Rattle.release_rules.specs.declared.release.Release.TheVariants.{Pacific, Reef, Tentacle}
use Rattle.release_rules.specs.Releases.{version_of}
use Rattle.texts.specs.Comparing.{comparison}
use Rattle.texts.specs.Lines.{IsReported, SameIf}
use Rattle.texts.specs.declared.shape.Shape.TheVariants.{Lines}
use Rattle.texts.proofs.Answered.{number_to}
use Rattle.texts.proofs.Compared.{one_comparison_before}
use Rattle.texts.proofs.MdsCompared.{one_mds_comparison_before}
use Rattle.texts.proofs.Quoted.{clash, first_byte}
use Rattle.queries.specs.ComparingBy.{changes_text, uncompared_text}
use Rattle.queries.specs.ComparingMore.{HasAnswer, HasText, ReleaseAnswer, SayTheSame, TellsTheSame, answer_text, head_of, is_otherwise, own_answer, section_of, sections_of}
use Rattle.queries.specs.declared.comparing_by.MdsCompareFault.TheVariants.{BadAddress, New, NoMemory, Old}
use Rattle.queries.specs.declared.comparing_by.Uncompared.{Uncompared}
use Rattle.queries.specs.declared.comparing_by.Uncompared.TheVariants.{LastSlash, NotRead, TooLarge}
use Rattle.queries.specs.declared.comparing_more.OwnAnswer.{OwnAnswer}
use Rattle.queries.specs.declared.mds.NotRead.{NotRead as Unread}

-- ---- why a release does not compare the texts

unread_text : (release : Release) (found : Unread) (s : List ℕ) → found.release ≡ release → (uncompared_text (NotRead found) ++ codes "\n") ++ s ≡ codes "not read by Ceph " ++ (version_of release ++ (codes " at " ++ (decimal found.at ++ 10 ∷ s)))
unread_text release found s is =
    let version : List ℕ = version_of found.release in
    let place : List ℕ = codes " at " ++ decimal found.at in
    ap (λ (r : List ℕ). codes "not read by Ceph " ++ r) (append_assoc (version ++ place) (codes "\n") s ∙ append_assoc version place (10 ∷ s) ∙ ap (λ (r : Release). version_of r ++ (place ++ 10 ∷ s)) is)

one_why : (release : Release) (v w : Uncompared) (s t : List ℕ) → HasText release v → HasText release w → (uncompared_text v ++ codes "\n") ++ s ≡ (uncompared_text w ++ codes "\n") ++ t → (v ≡ w) × (s ≡ t)
one_why release (NotRead f) (NotRead g) s t fits also same =
    let bare = append_cancel_left (version_of release) _ _ (append_cancel_left (codes "not read by Ceph ") _ _ (sym (unread_text release f s fits.0) ∙ same ∙ unread_text release g t also.0)) in
    let both = number_to 10 f.at g.at s t refl fits.1 also.1 (append_cancel_left (codes " at ") _ _ bare) in
    let releases : f.release ≡ g.release = fits.0 ∙ sym also.0 in
    let places : f.at ≡ g.at = both.0 in
    (ap NotRead (λ i. record { release = releases i; at = places i }), both.1)
one_why release (NotRead f) TooLarge s t fits also same = clash 110 116 (omega arith) (ap first_byte same)
one_why release (NotRead f) (LastSlash of) s t fits also same = clash 110 116 (omega arith) (ap first_byte same)
one_why release TooLarge (NotRead g) s t fits also same = clash 110 116 (omega arith) (sym (ap first_byte same))
one_why release TooLarge TooLarge s t fits also same = (refl, append_cancel_left (codes "too large to be compared\n") s t same)
one_why release TooLarge (LastSlash of) s t fits also same = clash 32 111 (omega arith) (sym (ap (λ (r : List ℕ). first_byte (drop 2 r)) same))
one_why release (LastSlash of) (NotRead g) s t fits also same = clash 110 116 (omega arith) (sym (ap first_byte same))
one_why release (LastSlash of) TooLarge s t fits also same = clash 32 111 (omega arith) (ap (λ (r : List ℕ). first_byte (drop 2 r)) same)
one_why release (LastSlash of) (LastSlash other) s t fits also same =
    let releases : of ≡ other = fits ∙ sym also in
    let text : List ℕ = uncompared_text (LastSlash of) ++ codes "\n" in
    let alike : text ++ t ≡ (uncompared_text (LastSlash other) ++ codes "\n") ++ t = ap (λ (r : Release). (uncompared_text (LastSlash r) ++ codes "\n") ++ t) releases in
    (ap LastSlash releases, append_cancel_left text s t (same ∙ sym alike))

-- ---- what stands behind the name of a release

one_answer : (release : Release) (a b : ReleaseAnswer) (s t : List ℕ) → HasAnswer release a → HasAnswer release b → first_byte s ≤ 98 → first_byte t ≤ 98 → answer_text a ++ s ≡ answer_text b ++ t → SayTheSame a b × (s ≡ t)
one_answer release (ReleaseAnswer.compared c) (ReleaseAnswer.compared d) s t fits also low too same =
    one_mds_comparison_before c.gain d.gain c.loss d.loss c.networks d.networks s t fits.0 also.0 fits.1 also.1 low too (append_cancel_left (codes "\n") (changes_text Lines c ++ s) (changes_text Lines d ++ t) same)
one_answer release (ReleaseAnswer.compared c) (ReleaseAnswer.uncompared g) s t fits also low too same = clash 10 32 (omega arith) (ap first_byte same)
one_answer release (ReleaseAnswer.uncompared f) (ReleaseAnswer.compared d) s t fits also low too same = clash 10 32 (omega arith) (sym (ap first_byte same))
one_answer release (ReleaseAnswer.uncompared (Old v)) (ReleaseAnswer.uncompared (Old w)) s t fits also low too same =
    let both = one_why release v w s t fits also (append_cancel_left (codes " old grants: ") ((uncompared_text v ++ codes "\n") ++ s) ((uncompared_text w ++ codes "\n") ++ t) same) in
    (ap Old both.0, both.1)
one_answer release (ReleaseAnswer.uncompared (Old v)) (ReleaseAnswer.uncompared (New w)) s t fits also low too same = clash 110 111 (omega arith) (sym (ap (λ (r : List ℕ). first_byte (drop 1 r)) same))
one_answer release (ReleaseAnswer.uncompared (Old v)) (ReleaseAnswer.uncompared BadAddress) s t fits also low too same = absurd also
one_answer release (ReleaseAnswer.uncompared (Old v)) (ReleaseAnswer.uncompared NoMemory) s t fits also low too same = absurd also
one_answer release (ReleaseAnswer.uncompared (New v)) (ReleaseAnswer.uncompared (Old w)) s t fits also low too same = clash 110 111 (omega arith) (ap (λ (r : List ℕ). first_byte (drop 1 r)) same)
one_answer release (ReleaseAnswer.uncompared (New v)) (ReleaseAnswer.uncompared (New w)) s t fits also low too same =
    let both = one_why release v w s t fits also (append_cancel_left (codes " new grants: ") ((uncompared_text v ++ codes "\n") ++ s) ((uncompared_text w ++ codes "\n") ++ t) same) in
    (ap New both.0, both.1)
one_answer release (ReleaseAnswer.uncompared (New v)) (ReleaseAnswer.uncompared BadAddress) s t fits also low too same = absurd also
one_answer release (ReleaseAnswer.uncompared (New v)) (ReleaseAnswer.uncompared NoMemory) s t fits also low too same = absurd also
one_answer release (ReleaseAnswer.uncompared BadAddress) b s t fits also low too same = absurd fits
one_answer release (ReleaseAnswer.uncompared NoMemory) b s t fits also low too same = absurd fits

-- ---- one release

-- the second digit of the release that is named first in a text, if one is
abbrev digit : List ℕ → ℕ
digit s = first_byte (drop 22 s)

abbrev digit_of : Release → ℕ
digit_of Pacific = 54
digit_of Reef = 56
digit_of Tentacle = 48

named : (release : Release) (s : List ℕ) → digit (head_of release ++ s) ≡ digit_of release
named Pacific s = refl
named Reef s = refl
named Tentacle s = refl

-- what stands behind what is told of a release: something else that names another one first, or nothing
record IsBehind (release : Release) (s : List ℕ) : Type 0 where
  low : first_byte s ≤ 98
  another : digit s ≢ digit_of release

module _ (release : Release) (a b : ReleaseAnswer) (s t : List ℕ) (fits : HasAnswer release a) (also : HasAnswer release b) (behind : IsBehind release s) (too : IsBehind release t) where
  abbrev told : Bool → ReleaseAnswer → List ℕ
  told is answer = if is then head_of release ++ answer_text answer else []

  by_flags : (p q : Bool) → told p a ++ s ≡ told q b ++ t → ((p ≡ q) × (p ≡ true → SayTheSame a b)) × (s ≡ t)
  by_flags true true same =
      let both = one_answer release a b s t fits also behind.low too.low (append_cancel_left (head_of release) _ _ (sym (append_assoc (head_of release) (answer_text a) s) ∙ same ∙ append_assoc (head_of release) (answer_text b) t)) in
      ((refl, λ is. both.0), both.1)
  by_flags true false same = absurd (too.another (ap digit (sym same ∙ append_assoc (head_of release) (answer_text a) s) ∙ named release (answer_text a ++ s)))
  by_flags false true same = absurd (behind.another (ap digit (same ∙ append_assoc (head_of release) (answer_text b) t) ∙ named release (answer_text b ++ t)))
  by_flags false false same = ((refl, λ is. let apart : ⊥ = cc in absurd apart), same)

one_section : (own : OwnAnswer) (release : Release) (a b : ReleaseAnswer) (s t : List ℕ) → HasAnswer release a → HasAnswer release b → IsBehind release s → IsBehind release t
    → section_of own release a ++ s ≡ section_of own release b ++ t → TellsTheSame own a b × (s ≡ t)
one_section own release a b s t fits also behind too same = by_flags release a b s t fits also behind too (is_otherwise own a) (is_otherwise own b) same

-- ---- the whole

low_told : (release : Release) (is : Bool) (answer : ReleaseAnswer) (s : List ℕ) → first_byte s ≤ 98 → first_byte ((if is then head_of release ++ answer_text answer else []) ++ s) ≤ 98
low_told release true answer s low = omega arith
low_told release false answer s low = low

other_told : (release another : Release) (is : Bool) (answer : ReleaseAnswer) (s : List ℕ) → digit_of another ≢ digit_of release → digit s ≢ digit_of release → digit ((if is then head_of another ++ answer_text answer else []) ++ s) ≢ digit_of release
other_told release another true answer s apart other same = apart (sym (named another (answer_text answer ++ s)) ∙ ap digit (sym (append_assoc (head_of another) (answer_text answer) s)) ∙ same)
other_told release another false answer s apart other same = other same

behind_one : (own : OwnAnswer) (release another : Release) (answer : ReleaseAnswer) (s : List ℕ) → digit_of another ≢ digit_of release → IsBehind release s → IsBehind release (section_of own another answer ++ s)
behind_one own release another answer s apart behind = record {
  low = low_told another (is_otherwise own answer) answer s behind.low;
  another = other_told release another (is_otherwise own answer) answer s apart behind.another;
}

nothing_behind : (release : Release) → IsBehind release []
nothing_behind Pacific = record { low = omega arith; another = λ same. omega arith }
nothing_behind Reef = record { low = omega arith; another = λ same. omega arith }
nothing_behind Tentacle = record { low = omega arith; another = λ same. omega arith }

one_last : (own : OwnAnswer) (r c : ReleaseAnswer) → HasAnswer Tentacle r → HasAnswer Tentacle c → section_of own Tentacle r ≡ section_of own Tentacle c → TellsTheSame own r c
one_last own r c fits also same = (one_section own Tentacle r c [] [] fits also (nothing_behind Tentacle) (nothing_behind Tentacle) (ap (λ (s : List ℕ). s ++ []) same)).0

last_behind : (own : OwnAnswer) (release : Release) (r : ReleaseAnswer) → digit_of Tentacle ≢ digit_of release → IsBehind release (section_of own Tentacle r)
last_behind own release r apart = subst (IsBehind release) (append-nil (section_of own Tentacle r)) (behind_one own release Tentacle r [] apart (nothing_behind release))

one_list : (own : OwnAnswer) (p q r a b c : ReleaseAnswer) → HasAnswer Pacific p → HasAnswer Reef q → HasAnswer Tentacle r → HasAnswer Pacific a → HasAnswer Reef b → HasAnswer Tentacle c
    → sections_of own p q r ≡ sections_of own a b c → TellsTheSame own p a × TellsTheSame own q b × TellsTheSame own r c
one_list own p q r a b c pacific reef tentacle also reef_also tentacle_also same =
    let first = one_section own Pacific p a (section_of own Reef q ++ section_of own Tentacle r) (section_of own Reef b ++ section_of own Tentacle c) pacific also
    (behind_one own Pacific Reef q (section_of own Tentacle r) (λ same. omega arith) (last_behind own Pacific r (λ same. omega arith)))
    (behind_one own Pacific Reef b (section_of own Tentacle c) (λ same. omega arith) (last_behind own Pacific c (λ same. omega arith))) same in
    let second = one_section own Reef q b (section_of own Tentacle r) (section_of own Tentacle c) reef reef_also
    (last_behind own Reef r (λ same. omega arith)) (last_behind own Reef c (λ same. omega arith)) first.1 in
    (first.0, second.0, one_last own r c tentacle tentacle_also second.1)

low_list : (own : OwnAnswer) (p q r : ReleaseAnswer) → first_byte (sections_of own p q r) ≤ 98
low_list own p q r =
    low_told Pacific (is_otherwise own p) p (section_of own Reef q ++ section_of own Tentacle r) (low_told Reef (is_otherwise own q) q (section_of own Tentacle r) (last_behind own Pacific r (λ same. omega arith)).low)

alike : (g h : Option Witness) → SameIf g h → is_some g ≡ is_some h
alike None None same = refl
alike None (Some h) same = absurd same
alike (Some g) None same = absurd same
alike (Some g) (Some h) same = refl

pub one_with_releases : (g h l m : Option Witness) (p q r a b c : ReleaseAnswer) → IfSome g IsReported → IfSome h IsReported → IfSome l IsReported → IfSome m IsReported
    → HasAnswer Pacific p → HasAnswer Reef q → HasAnswer Tentacle r → HasAnswer Pacific a → HasAnswer Reef b → HasAnswer Tentacle c
    → comparison g l ++ sections_of (own_answer g l) p q r ≡ comparison h m ++ sections_of (own_answer h m) a b c
    → SameIf g h × SameIf l m × TellsTheSame (own_answer g l) p a × TellsTheSame (own_answer g l) q b × TellsTheSame (own_answer g l) r c
one_with_releases g h l m p q r a b c first second third fourth pacific reef tentacle also reef_also tentacle_also same =
    let own = one_comparison_before g h l m (sections_of (own_answer g l) p q r) (sections_of (own_answer h m) a b c) first second third fourth (low_list (own_answer g l) p q r) (low_list (own_answer h m) a b c) same in
    let gains : is_some g ≡ is_some h = alike g h own.0.0 in
    let loses : is_some l ≡ is_some m = alike l m own.0.1 in
    let here : own_answer g l ≡ own_answer h m = λ i. record { gains = gains i; loses = loses i } in
    let rest = one_list (own_answer g l) p q r a b c pacific reef tentacle also reef_also tentacle_also (own.1 ∙ sym (ap (λ (o : OwnAnswer). sections_of o a b c) here)) in
    (own.0.0, own.0.1, rest.0, rest.1, rest.2)
