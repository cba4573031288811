-- The lines of clients, one after the other.
use Rattle.std.proofs.Common.{◌≡◌, ℕ, ◌+◌, ◌<◌, ◌≤◌, Bool, true, false, ◌&&◌, Option, Some, inl, List, [], ◌∷◌, ◌++◌, length, drop, get_or, refl, sym, ap, subst, ◌∙◌, append_assoc}
use Rattle.std.proofs.lemmas.List.{append-nil, drop_all, drop_more}
use Rattle.capgrant.specs.declared.access.Attr.{Attr}
use Rattle.ceph_input.specs.Auth.{Named}
use Rattle.policy_analysis.specs.Callers.{Wanted}
use Rattle.capspec.specs.declared.grant.Grant.{Grant}
use Rattle.capspec.specs.Grants.{Reads}
use Rattle.policy_analysis.specs.declared.standing.Standing.{Standing}
use Rattle.policy_analysis.specs.Standing.{Answers}
use Rattle.queries.specs.Clients.{AreLines, Says, is_told, meant, others_in, standing_in}
use Rattle.queries.specs.Clients.AreLines.{another, client, no_more}
use Rattle.queries.specs.declared.clients.Telling.{Telling}

-- what is said of a client by the text of its grants, and whether it could be judged
abbrev pub Saying : Type 1
Saying = List ℕ → Option (List ℕ) → Bool → List ℕ → Type 0

-- with the lines of the others behind it the text is that of all, of whom as many could be judged
abbrev pub IsBegun : Saying → List Named → ℕ → Bool → List ℕ → Type 0
IsBegun say es i judged text = (others : Bool) (rest : List ℕ) → AreLines say (drop i es) others rest → AreLines say es (judged && others) (text ++ rest)

one_by_one : (a b c : Bool) → ((a && b) && c) ≡ (a && (b && c))
one_by_one true b c = refl
one_by_one false b c = refl

and_true : (a : Bool) → (a && true) ≡ a
and_true true = refl
and_true false = refl

-- whether this one and those before could be judged, as `&&` says it
pub both : (before this all : Bool) → before ≡ true → all ≡ this → all ≡ (before && this)
both before this all is same = rw is same

pub not_all : (before this all : Bool) → before ≡ false → all ≡ before → all ≡ (before && this)
not_all before this all is same = same ∙ is ∙ sym (ap (λ (b : Bool). b && this) is)

module _ (say : Saying) (es : List Named) (i : ℕ) (e : Named) (judged : Bool) (text : List ℕ) (inside : i < length es) (is : e ≡ get_or es i e) (begun : IsBegun say es i judged text) where
  here : drop i es ≡ e ∷ drop (i + 1) es
  here = drop_more es i e inside ∙ ap (λ (x : Named). x ∷ drop (i + 1) es) (sym is)

  pub one_line : (this now : Bool) (line after : List ℕ) → is_told e ≡ true → say e.name e.caps this line → after ≡ text ++ line → now ≡ (judged && this) → IsBegun say es (i + 1) now after
  one_line this now line after one says longer all others rest lines =
      let texts : after ++ rest ≡ text ++ (line ++ rest) = ap (λ (t : List ℕ). t ++ rest) longer ∙ append_assoc text line rest in
      let flags : (now && others) ≡ (judged && (this && others)) = ap (λ (b : Bool). b && others) all ∙ one_by_one judged this others in
      subst (λ (b : Bool). AreLines say es b (after ++ rest)) (sym flags)
      (subst (λ (t : List ℕ). AreLines say es (judged && (this && others)) t) (sym texts)
      (begun (this && others) (line ++ rest) (subst (λ (xs : List Named). AreLines say xs (this && others) (line ++ rest)) (sym here) (client this others line rest one says lines))))

  pub no_line : (now : Bool) (after : List ℕ) → is_told e ≡ false → after ≡ text → now ≡ judged → IsBegun say es (i + 1) now after
  no_line now after none same all others rest lines =
      subst (λ (b : Bool). AreLines say es (b && others) (after ++ rest)) (sym all)
      (subst (λ (t : List ℕ). AreLines say es (judged && others) (t ++ rest)) (sym same)
      (begun others rest (subst (λ (xs : List Named). AreLines say xs others rest) (sym here) (another none lines))))

pub all_lines : (say : Saying) (es : List Named) (i : ℕ) (judged : Bool) (text : List ℕ) → length es ≤ i → IsBegun say es i judged text → AreLines say es judged text
all_lines say es i judged text end begun =
    subst (λ (b : Bool). AreLines say es b text) (and_true judged)
    (subst (λ (t : List ℕ). AreLines say es (judged && true) t) (append-nil text)
    (begun true [] (subst (λ (xs : List Named). AreLines say xs true []) (sym (drop_all i es end)) no_more)))

-- grants that could be read
pub judged_line : (telling : Telling) (w : Wanted) (attr : Option Attr) (name : List ℕ) (caps : Option (List ℕ)) (text : List ℕ) (grants : List Grant) (standing : Standing) → Some text ≡ caps → Reads (meant text) grants
    → Answers w attr grants standing → Says telling w attr name caps true (standing_in telling name w attr standing (others_in telling w attr text standing))
judged_line telling w attr name caps text grants standing some means answers =
    subst (λ (c : Option (List ℕ)). Says telling w attr name c true (standing_in telling name w attr standing (others_in telling w attr text standing))) some
    (inl (refl, record { grants = grants; standing = standing; means = means; answers = answers; line_is = refl }))
