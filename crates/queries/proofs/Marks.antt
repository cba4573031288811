-- A text cut at a place of a mark, place by place.
use Rattle.std.proofs.Common.{◌≡◌, ℕ, zero, suc, ◌+◌, ◌<◌, ◌≤◌, Bool, true, false, Option, Some, None, List, [], ◌∷◌, ◌++◌, length, get_or, take, drop, append_assoc, refl, sym, ap, ◌∙◌, arith}
use Rattle.std.specs.Prelude.{MatchOption, is_some, nat_eq, ◌&&◌, option_map, if◌then◌else◌}
use Rattle.std.specs.List.{starts_with}
use Rattle.std.proofs.lemmas.List.{append-nil, drop_all, drop_more, take_more}
use Rattle.queries.specs.Cuts.{behind_front, closed_behind, cut_below, cut_first, is_closed}

-- ---- from the end

-- the mark stands at the place, and the text behind it passes
abbrev pub stands_at : (List ℕ → Bool) → List ℕ → List ℕ → ℕ → Bool
stands_at test mark text at = starts_with nat_eq (drop at text) mark && test (drop (length mark) (drop at text))

pub misses : (test : List ℕ → Bool) (mark text : List ℕ) (n at : ℕ) → n ≡ at + 1 → stands_at test mark text at ≡ false → cut_below test mark text n ≡ cut_below test mark text at
misses test mark text zero at one miss = absurd (omega arith)
misses test mark text (suc n) at one miss = let same : n ≡ at = omega arith in rw (same, miss) refl

pub hits : (test : List ℕ → Bool) (mark text : List ℕ) (n at : ℕ) → n ≡ at + 1 → stands_at test mark text at ≡ true → cut_below test mark text n ≡ Some (take at text, drop (length mark) (drop at text))
hits test mark text zero at one hit = absurd (omega arith)
hits test mark text (suc n) at one hit = let same : n ≡ at = omega arith in rw (same, hit) refl

-- what is there where a test passes, is not there where it does not
pub is_not_there : {A : Type 0} (test : Bool) (x : A) → (if test then Some x else None) ≡ None → test ≡ false
is_not_there true x is = absurd (cc)
is_not_there false x is = refl

-- what is there passes, and is what was found
pub is_there : {A : Type 0} (test : Bool) (x y : A) → (if test then Some x else None) ≡ Some y → (test ≡ true) × (x ≡ y)
is_there true x y is = (refl, cc)
is_there false x y is = absurd (cc)

pub no_start : (starts test : Bool) → starts ≡ false → (starts && test) ≡ false
no_start starts test none = rw none refl

-- ---- from the front

-- the parts of a text that has these bytes in front of it
abbrev pub behind : List ℕ → Option (List ℕ × List ℕ) → Option (List ℕ × List ℕ)
behind front parts = option_map (λ p. (front ++ p.0, p.1)) parts

pub behind_nothing : (parts : Option (List ℕ × List ℕ)) → behind [] parts ≡ parts
behind_nothing None = refl
behind_nothing (Some p) = refl

behind_both : (front : List ℕ) (b : ℕ) (parts : Option (List ℕ × List ℕ)) → behind (front ++ b ∷ []) parts ≡ behind front (option_map (λ (p : List ℕ × List ℕ). (b ∷ p.0, p.1)) parts)
behind_both front b None = refl
behind_both front b (Some p) = ap (λ (t : List ℕ). Some (t, p.1)) (append_assoc front (b ∷ []) p.0)

pub passes : (mark text : List ℕ) (end : ℕ) → end < length text → starts_with nat_eq (drop end text) mark ≡ false
    → behind (take (end + 1) text) (cut_first mark (drop (end + 1) text)) ≡ behind (take end text) (cut_first mark (drop end text))
passes mark text end inside miss =
    let d : ℕ = 0 in
    let here : drop end text ≡ get_or text end d ∷ drop (end + 1) text = drop_more text end d inside in
    let taken : take (end + 1) text ≡ take end text ++ get_or text end d ∷ [] = take_more text end d inside in
    ap (λ (t : List ℕ). behind t (cut_first mark (drop (end + 1) text))) taken
    ∙ behind_both (take end text) (get_or text end d) (cut_first mark (drop (end + 1) text))
    ∙ ap (behind (take end text)) (sym (passed mark (drop end text) (get_or text end d) (drop (end + 1) text) here miss))
  where
    passed : (mark text : List ℕ) (b : ℕ) (more : List ℕ) → text ≡ b ∷ more → starts_with nat_eq text mark ≡ false → cut_first mark text ≡ option_map (λ (p : List ℕ × List ℕ). (b ∷ p.0, p.1)) (cut_first mark more)
    passed mark text b more is miss =
        let miss_at : starts_with nat_eq (b ∷ more) mark ≡ false = rw is at miss in
        ap (cut_first mark) is ∙ rw miss_at refl

pub found : (mark text : List ℕ) (end : ℕ) → end < length text → starts_with nat_eq (drop end text) mark ≡ true
    → behind (take end text) (cut_first mark (drop end text)) ≡ Some (take end text, drop (length mark) (drop end text))
found mark text end inside hit =
    let d : ℕ = 0 in
    let here : drop end text ≡ get_or text end d ∷ drop (end + 1) text = drop_more text end d inside in
    let hit_at : starts_with nat_eq (get_or text end d ∷ drop (end + 1) text) mark ≡ true = rw here at hit in
    ap (λ (t : List ℕ). behind (take end text) (cut_first mark t)) here
    ∙ rw hit_at (ap (λ (t : List ℕ). Some (take end text ++ [], drop (length mark) t)) (sym here) ∙ ap (λ (t : List ℕ). Some (t, drop (length mark) (drop end text))) (append-nil (take end text)))

pub found_so : (mark text front after : List ℕ) (end : ℕ) → end < length text → starts_with nat_eq (drop end text) mark ≡ true → front ≡ take end text → after ≡ drop (length mark) (drop end text)
    → behind (take end text) (cut_first mark (drop end text)) ≡ Some (front, after)
found_so mark text front after end inside hit front-is after-is = rw (front-is, after-is) (found mark text end inside hit)

pub nowhere : (mark text : List ℕ) (end : ℕ) → length text ≤ end → behind (take end text) (cut_first mark (drop end text)) ≡ None
nowhere mark text end all = ap (λ (t : List ℕ). behind (take end text) (cut_first mark t)) (drop_all end text all)

-- ---- behind a front

-- where the text does not begin so, nothing closed stands behind that
pub not_closed_behind : (mark text : List ℕ) → behind_front mark text ≡ None → closed_behind mark text ≡ None
not_closed_behind mark text none =
    let other : starts_with nat_eq text mark ≡ false = is_not_there (starts_with nat_eq text mark) (drop (length mark) text) none in
    rw other refl

pub closed_so : (mark text behind : List ℕ) → behind_front mark text ≡ Some behind → is_closed behind ≡ true → closed_behind mark text ≡ Some behind
closed_so mark text behind is closed =
    let both = is_there (starts_with nat_eq text mark) (drop (length mark) text) behind is in
    let begins : starts_with nat_eq text mark ≡ true = both.0 in
    let same : drop (length mark) text ≡ behind = both.1 in
    rw (begins, same, closed) refl

pub open_so : (mark text behind : List ℕ) → behind_front mark text ≡ Some behind → is_closed behind ≡ false → closed_behind mark text ≡ None
open_so mark text behind is not_closed =
    let both = is_there (starts_with nat_eq text mark) (drop (length mark) text) behind is in
    let begins : starts_with nat_eq text mark ≡ true = both.0 in
    let same : drop (length mark) text ≡ behind = both.1 in
    rw (begins, same, not_closed) refl

-- ---- parts

-- where nothing is to be read, nothing was
pub nothing_read : {A B : Type 0} (said : Option B) (view : A → B) (read : Option A) → read ≡ None → said ≡ None → MatchOption read (said ≡ None) (λ found. said ≡ Some (view found))
nothing_read said view (Some found) is none = absurd (cc)
nothing_read said view None is none = none

-- the same where what was read is told
pub none_read : {A B : Type 0} (said : Option B) (view : A → B) (read : Option A) → read ≡ None → said ≡ None → option_map view read ≡ said
none_read said view (Some found) is none = absurd (cc)
none_read said view None is none = sym none

-- what was read tells whether anything is to be
pub is_found : {A B : Type 0} (said : Option B) (view : A → B) (read : Option A) → MatchOption read (said ≡ None) (λ found. said ≡ Some (view found)) → is_some read ≡ is_some said
is_found said view (Some found) is = ap is_some (sym is)
is_found said view None none = ap is_some (sym none)

pub is_told : {A B : Type 0} (said : Option B) (view : A → B) (read : Option A) → option_map view read ≡ said → is_some read ≡ is_some said
is_told said view (Some found) is = ap is_some is
is_told said view None is = ap is_some is
