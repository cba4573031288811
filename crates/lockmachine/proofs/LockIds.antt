-- Where the first move is found: among the locks of all inodes, or at one inode where it is its turn.
use Rattle.std.proofs.Common.{◌≡◌, ◌≢◌, ℕ, ◌<◌, Bool, true, false, cond, ◌||◌, ◌&&◌, T, Option, Some, None, List, [], ◌∷◌, refl, sym, ap, ◌∙◌, unwrap_or}
use Rattle.std.proofs.Common.{eq-eqb, true≢false, arith}
use Rattle.std.proofs.Common.{map as each}
use Rattle.std.specs.List.{find, flat_map, list_any}
use Rattle.std.specs.Option.{is_some, option_map, option_or}
use Rattle.std.specs.FinMap as map
use Rattle.std.specs.FinMap.Entries.{below_all, is_sorted}
use Rattle.std.specs.declared.cmp.Ordering.TheVariants.{Equal, Greater, Less}
use Rattle.std.specs.Ordering.{eq_by_cmp, is_lt, nat_cmp}
use Rattle.std.specs.Cmp.{ranked, unsigned_tied}
use Rattle.std.proofs.lemmas.List.Folds.{find-append}
use Rattle.capbits.specs.declared.cap.Part.{Part}
use Rattle.capbits.specs.declared.cap.Part.TheVariants.{A, F, L, X}
use Rattle.capbits.specs.declared.ids.Ticket.{Ticket}
use Rattle.captable.proofs.Searches.{find_passes}
use Rattle.lockmachine.specs.declared.request.Request.{Request}
use Rattle.lockmachine.specs.declared.states.InodeLocks.{InodeLocks}
use Rattle.lockmachine.specs.declared.moves.Move.TheVariants.{End, Serve, Settled}
use Rattle.lockmachine.specs.Inodes.{lock_in}
use Rattle.lockmachine.specs.Locks.{LockMap}
use Rattle.lockmachine.specs.Scene.{Scene, wanted_in_all}
use Rattle.lockmachine.specs.Moves.{LockId, first_move, lock_ids, lock_ids_of, may_begin, may_begin_in, may_end, may_end_in, may_serve, parts}
use Rattle.lockmachine.specs.Cursors.{IsCursorAt, IsNextAt, begin_or_rest, beginning, end_or_serve, serve_or_begin}
use Rattle.lockmachine.proofs.FirstMove.{first-found}
use Rattle.lockmachine.proofs.Finding.{fails_at, no_part}
use Rattle.lockmachine.proofs.Rest.{same_key}

-- ---- one inode after another

-- the locks of these inodes
abbrev pub lock_ids_in : List ℕ → List LockId
lock_ids_in inos = flat_map lock_ids_of inos

-- a search of what a function makes of each
pub find-each : {A B : Type 0} (p : B → Bool) (f : A → B) (xs : List A) → find p (each f xs) ≡ option_map f (find (λ x. p (f x)) xs)
find-each p f [] = refl
find-each p f (x ∷ xs) = elim (p (f x)) as (λ b. cond b (Some (f x)) (find p (each f xs)) ≡ option_map f (cond b (Some x) (find (λ x. p (f x)) xs))) [
  | true ↦ refl
  | false ↦ find-each p f xs
]

-- what is found at an inode, else what is found later
pub find-lock_ids_in : (p : LockId → Bool) (ino : ℕ) (inos : List ℕ)
    → find p (lock_ids_in (ino ∷ inos)) ≡ option_or (option_map (λ part. (ino, part)) (find (λ part. p (ino, part)) parts)) (find p (lock_ids_in inos))
find-lock_ids_in p ino inos = find-append p (lock_ids_of ino) (lock_ids_in inos) ∙ ap (λ o. option_or o (find p (lock_ids_in inos))) (find-each p (λ (part : Part). (ino, part)) parts)

-- the first beginning at an inode, else what begins later
pub begin-lock_ids_in : (s : Scene) (ino : ℕ) (inos : List ℕ)
    → begin_or_rest s (find (may_begin s) (lock_ids_in (ino ∷ inos)))
    ≡ unwrap_or (option_map (λ part. beginning s.locks (wanted_in_all s ino) (ino, part)) (find (λ part. may_begin s (ino, part)) parts)) (begin_or_rest s (find (may_begin s) (lock_ids_in inos)))
begin-lock_ids_in s ino inos = ap (begin_or_rest s) (find-lock_ids_in (may_begin s) ino inos) ∙ by_found (find (λ part. may_begin s (ino, part)) parts)
  where
    later : Option LockId
    later = find (may_begin s) (lock_ids_in inos)

    by_found : (o : Option Part) → begin_or_rest s (option_or (option_map (λ part. (ino, part)) o) later) ≡ unwrap_or (option_map (λ part. beginning s.locks (wanted_in_all s ino) (ino, part)) o) (begin_or_rest s later)
    by_found None = refl
    by_found (Some part) = refl

-- ---- a test that passes at the locks of one inode alone

none_here : (p : LockId → Bool) (i : ℕ) → ((part : Part) → p (i, part) ≡ false) → find p (lock_ids_of i) ≡ None
none_here p i fails = rw (fails A, fails L, fails X, fails F) refl

module _ (p : LockId → Bool) (ino : ℕ) (elsewhere : (other : ℕ) (part : Part) → other ≢ ino → p (other, part) ≡ false) where
  at_inode : (i : ℕ) (b : Bool) → eq_by_cmp nat_cmp ino i ≡ b → find p (lock_ids_of i) ≡ cond b (find p (lock_ids_of ino)) None
  at_inode i true e = ap (λ j. find p (lock_ids_of j)) (same_key ino i e)
  at_inode i false e = none_here p i (λ part. elsewhere i part (λ same. true≢false (sym (unsigned_tied ino i ∙ eq-eqb ino i (sym same)) ∙ e)))

  either : (a b : Bool) (o : Option LockId) → option_or (cond a o None) (cond b o None) ≡ cond (a || b) o None
  either false b o = refl
  either true b (Some x) = refl
  either true true None = refl
  either true false None = refl

  among : (inos : List ℕ) → find p (lock_ids_in inos) ≡ cond (list_any (eq_by_cmp nat_cmp ino) inos) (find p (lock_ids_of ino)) None
  among [] = refl
  among (i ∷ is) =
      find-append p (lock_ids_of i) (lock_ids_in is) ∙ (λ k. option_or (at_inode i (eq_by_cmp nat_cmp ino i) refl k) (among is k))
      ∙ either (eq_by_cmp nat_cmp ino i) (list_any (eq_by_cmp nat_cmp ino) is) (find p (lock_ids_of ino))

  -- it is found among all as at the inode, where it fails if there is no lock
  pub found_at : (locks : LockMap) → (map.get locks.states ino ≡ None → (part : Part) → p (ino, part) ≡ false) → find p (lock_ids locks) ≡ find p (lock_ids_of ino)
  found_at locks gone =
      among (map.keys locks.states) ∙ ap (λ b. cond b (find p (lock_ids_of ino)) None) (sym (map.contains_key-keys locks.states ino)) ∙ by_locks (map.get locks.states ino) refl
    where
      by_locks : (o : Option InodeLocks) → map.get locks.states ino ≡ o → cond (is_some o) (find p (lock_ids_of ino)) None ≡ find p (lock_ids_of ino)
      by_locks None is = sym (none_here p ino (gone is))
      by_locks (Some l) is = refl

-- ---- the first move, by what is found

module _ (s : Scene) where
  pub end_first : (ino : ℕ) (part : Part) → find (may_end s) (lock_ids s.locks) ≡ Some (ino, part) → first_move s ≡ End (record { 0 = ino }) part
  end_first ino part found = first-found s ∙ ap (end_or_serve s) found

  pub serve_first : (ticket : Ticket) → find (may_end s) (lock_ids s.locks) ≡ None → Some ticket ≡ option_map (λ q. q.ticket) (find (may_serve s.locks) s.locks.queue) → first_move s ≡ Serve ticket
  serve_first ticket no_end found = first-found s ∙ ap (end_or_serve s) no_end ∙ by_found (find (may_serve s.locks) s.locks.queue) found
    where
      by_found : (o : Option Request) → Some ticket ≡ option_map (λ q. q.ticket) o → serve_or_begin s o ≡ Serve ticket
      by_found None is = absurd (cc)
      by_found (Some q) is = cc

  pub begin_first : find (may_end s) (lock_ids s.locks) ≡ None → None ≡ option_map (λ (q : Request). q.ticket) (find (may_serve s.locks) s.locks.queue)
      → first_move s ≡ begin_or_rest s (find (may_begin s) (lock_ids s.locks))
  begin_first no_end none_served = first-found s ∙ ap (end_or_serve s) no_end ∙ by_found (find (may_serve s.locks) s.locks.queue) none_served
    where
      by_found : (o : Option Request) → None ≡ option_map (λ (q : Request). q.ticket) o → serve_or_begin s o ≡ begin_or_rest s (find (may_begin s) (lock_ids s.locks))
      by_found None is = refl
      by_found (Some q) is = absurd (cc)

-- ---- a test that fails at the locks of each lower inode

both_T : (a b : Bool) → T (a && b) → T a × T b
both_T true b h = (tt, h)
both_T false b h = absurd h

less_T : (i k : ℕ) → T (is_lt (nat_cmp i k)) → i < k
less_T i k h = elim (nat_cmp i k) as (λ r. r ≡ nat_cmp i k → T (is_lt r) → i < k) [
  | Less ↦ λ is h. ranked i k Less is
  | Equal ↦ λ is h. absurd h
  | Greater ↦ λ is h. absurd h
] refl h

-- the inodes of these entries
abbrev inos_of : List (ℕ × InodeLocks) → List ℕ
inos_of es = each (λ e. e.0) es

-- what stands behind a number, is above it
above : (i ino : ℕ) (es : List (ℕ × InodeLocks)) → T (below_all nat_cmp i es) → list_any (eq_by_cmp nat_cmp ino) (inos_of es) ≡ true → i < ino
above i ino [] h among = absurd (true≢false (sym among))
above i ino (e ∷ es) h among =
    let rise = both_T (is_lt (nat_cmp i e.0)) (below_all nat_cmp i es) h in
    elim (eq_by_cmp nat_cmp ino e.0) as (λ b. eq_by_cmp nat_cmp ino e.0 ≡ b → (b || list_any (eq_by_cmp nat_cmp ino) (inos_of es)) ≡ true → i < ino) [
      | true ↦ λ tie among. (let same : e.0 ≡ ino = same_key ino e.0 tie in let less : i < e.0 = less_T i e.0 rise.0 in omega arith)
      | false ↦ λ tie among. above i ino es rise.1 among
    ] refl among

module _ (p : LockId → Bool) (ino : ℕ) (lower : (other : ℕ) (part : Part) → other < ino → p (other, part) ≡ false) (at : LockId) (found : find p (lock_ids_of ino) ≡ Some at) where
  first_among : (es : List (ℕ × InodeLocks)) → T (is_sorted nat_cmp es) → list_any (eq_by_cmp nat_cmp ino) (inos_of es) ≡ true → find p (lock_ids_in (inos_of es)) ≡ Some at
  first_among [] sorted among = absurd (true≢false (sym among))
  first_among (e ∷ es) sorted among =
      let rise = both_T (below_all nat_cmp e.0 es) (is_sorted nat_cmp es) sorted in
      let later : Option LockId = find p (lock_ids_in (inos_of es)) in
      find-append p (lock_ids_of e.0) (lock_ids_in (inos_of es))
      ∙ elim (eq_by_cmp nat_cmp ino e.0) as (λ b. eq_by_cmp nat_cmp ino e.0 ≡ b → (b || list_any (eq_by_cmp nat_cmp ino) (inos_of es)) ≡ true → option_or (find p (lock_ids_of e.0)) later ≡ Some at) [
        | true ↦ λ tie among. ap (λ i. option_or (find p (lock_ids_of i)) later) (same_key ino e.0 tie) ∙ ap (λ o. option_or o later) found
        | false ↦ λ tie among.
            ap (λ o. option_or o later) (none_here p e.0 (λ part. lower e.0 part (above e.0 ino es rise.0 among)))
            ∙ first_among es rise.1 among
      ] refl among

  -- what is found at the inode, which has locks, is found among all
  pub first_found : (locks : LockMap) → map.contains_key locks.states ino ≡ true → find p (lock_ids locks) ≡ Some at
  first_found locks has =
      first_among (map.entries locks.states) (map.entries_sorted locks.states) (sym (map.contains_key-keys locks.states ino) ∙ has)

-- ---- where it is an inode's turn

module _ (s : Scene) (ino : ℕ) (cursor : IsCursorAt s ino) where
  pub ends_at : find (may_end s) (lock_ids s.locks) ≡ option_map (λ part. (ino, part)) (find (λ part. may_end s (ino, part)) parts)
  ends_at =
      found_at (may_end s) ino cursor.ends s.locks (λ none part. ap (λ o. may_end_in s.table (ino, part) (option_map (lock_in part) o)) none)
      ∙ find-each (may_end s) (λ (part : Part). (ino, part)) parts

  -- where a lock may begin, its inode has locks
  has_locks : (part : Part) → may_begin s (ino, part) ≡ true → (o : Option InodeLocks) → map.get s.locks.states ino ≡ o → is_some o ≡ true
  has_locks part may None gone =
      absurd (true≢false (sym may ∙ ap (λ o. may_begin_in s.locks.queue (wanted_in_all s ino) (ino, part) (option_map (lock_in part) o)) gone))
  has_locks part may (Some l) has = refl

  begins_at : (part : Part) → find (λ part. may_begin s (ino, part)) parts ≡ Some part → find (may_begin s) (lock_ids s.locks) ≡ Some (ino, part)
  begins_at part found =
      let may = find_passes (λ part. may_begin s (ino, part)) parts part found in
      first_found (may_begin s) ino cursor.begins (ino, part)
      (find-each (may_begin s) (λ (part : Part). (ino, part)) parts ∙ ap (option_map (λ part. (ino, part))) found) s.locks
      (ap is_some refl ∙ has_locks part may (map.get s.locks.states ino) refl)

  -- what is next there, where none of its gathers may end and nobody may be served
  pub next_begin : find (λ part. may_end s (ino, part)) parts ≡ None → None ≡ option_map (λ (q : Request). q.ticket) (find (may_serve s.locks) s.locks.queue)
      → (o : Option Part) → find (λ part. may_begin s (ino, part)) parts ≡ o
      → IsNextAt s ino (unwrap_or (option_map (λ part. beginning s.locks (wanted_in_all s ino) (ino, part)) o) Settled)
  next_begin no_end none_served None none = record {
    ends = no_part (λ part. may_end s (ino, part)) no_end;
    begins = no_part (λ part. may_begin s (ino, part)) none;
    serves = fails_at (may_serve s.locks) s.locks.queue (nobody (find (may_serve s.locks) s.locks.queue) none_served);
  }
    where
      nobody : (o : Option Request) → None ≡ option_map (λ (q : Request). q.ticket) o → o ≡ None
      nobody None is = refl
      nobody (Some q) is = absurd (cc)
  next_begin no_end none_served (Some part) found =
      (begin_first s (ends_at ∙ ap (option_map (λ part. (ino, part))) no_end) none_served ∙ ap (begin_or_rest s) (begins_at part found), refl)
