-- What a client is to know that it holds, cap by cap.
use Rattle.std.proofs.Common.{◌≡◌, ℕ, Bool, true, false, not, ◌&&◌, ◌||◌, Option, Some, None, List, [], ◌∷◌, refl, sym, ap, ◌∙◌, true≢false}
use Rattle.capbits.specs.declared.cap.Cap.{Cap}
use Rattle.capbits.specs.declared.cap.Cap.TheVariants.{P}
use Rattle.capbits.specs.declared.cap.Part.{Part}
use Rattle.capbits.specs.declared.cap.Part.TheVariants.{A, F, L, X}
use Rattle.capbits.specs.Caps.{has}
use Rattle.capbits.specs.Sets.{IsSubset, and_parts, covers, has-caps_in, has-meet, has-minus, has-none, has-of_part, has-union, meet, minus, of_part}
use Rattle.capbits.specs.Sets.{same_caps, union}
use Rattle.capbits.specs.declared.ids.ClientId.{ClientId}
use Rattle.capbits.proofs.Covering.{pin_covers_none}
use Rattle.locktable.specs.declared.states.LockState.{LockState}
use Rattle.locktable.specs.declared.states.LockState.TheVariants.{Gather, Stable}
use Rattle.locktable.specs.Rows.{row_of}
use Rattle.captable.specs.declared.entry.Entry.{Entry}
use Rattle.captable.specs.declared.entry.EntryRow.{EntryRow}
use Rattle.lockmachine.specs.Locks.{lock_at}
use Rattle.capgrant.proofs.Pins.{nothing_without_pin}
use Rattle.lockmachine.specs.Policy.{Subject, permitted, permitted_to, question_of, subject}
use Rattle.lockmachine.specs.Scene.{Scene, against, against_lock, against_locks, against_part, against_policy, pending_of}
use Rattle.lockmachine.specs.Revoked.{is_revoked, is_revoked_by, is_revoked_of}

and_false : (h : Bool) → false ≡ (h && false)
and_false true = refl
and_false false = refl

and_more : (h v n : Bool) → ((h && v) && n) ≡ (h && (v && n))
and_more true v n = refl
and_more false v n = refl

has-lock : (part : Part) (row : EntryRow) (c : Cap) (o : Option LockState) → has (against_lock part row o) c ≡ (has row.entry.held c && is_revoked_by part row.holder.client c o)
has-lock part row c None = has-none c ∙ and_false (has row.entry.held c)
has-lock part row c (Some (Stable state)) = has-none c ∙ and_false (has row.entry.held c)
has-lock part row c (Some (Gather from to)) =
    let r : Bool = not (has (row_of part to row.holder.client) c) in
    has-minus (of_part part row.entry.held) (row_of part to row.holder.client) c
    ∙ ap (λ b. b && r) (has-of_part part row.entry.held c) ∙ and_more (has row.entry.held c) (covers c part) r

has-part : (s : Scene) (row : EntryRow) (c : Cap) (part : Part) → has (against_part s row part) c ≡ (has row.entry.held c && is_revoked_of s row.holder c part)
has-part s row c part = has-lock part row c (lock_at s.locks row.holder.ino.0 part)

gathered : (h a l x f n : Bool) → (((h && a) || ((h && l) || ((h && x) || (h && f)))) || (h && n)) ≡ (h && ((a || (l || (x || f))) || n))
gathered true a l x f n = refl
gathered false a l x f n = refl

pub has-against : (s : Scene) (row : EntryRow) (c : Cap) → has (against s row) c ≡ (has row.entry.held c && is_revoked s row.holder c)
has-against s row c =
    let h : Bool = has row.entry.held c in
    let n : Bool = not (has (permitted s.fs s.tree s.sessions row.holder) c) in
    let locks : has (against_locks s row) c ≡ ((h && is_revoked_of s row.holder c A) || ((h && is_revoked_of s row.holder c L) || ((h && is_revoked_of s row.holder c X) || (h && is_revoked_of s row.holder c F)))) =
    has-union _ _ c ∙ (λ i. has-part s row c A i || has (union (against_part s row L) (union (against_part s row X) (against_part s row F))) c)
    ∙ ap (λ b. (h && is_revoked_of s row.holder c A) || b) (has-union _ _ c ∙ (λ i. has-part s row c L i || has (union (against_part s row X) (against_part s row F)) c)
    ∙ ap (λ b. (h && is_revoked_of s row.holder c L) || b) (has-union _ _ c ∙ (λ i. has-part s row c X i || has-part s row c F i))) in
    has-union (against_locks s row) (against_policy s row) c ∙ (λ i. locks i || has-minus row.entry.held (permitted s.fs s.tree s.sessions row.holder) c i)
    ∙ gathered h (is_revoked_of s row.holder c A) (is_revoked_of s row.holder c L) (is_revoked_of s row.holder c X) (is_revoked_of s row.holder c F) n

rest : (h t : Bool) → (h && not (h && t)) ≡ (h && not t)
rest true t = refl
rest false t = refl

pub has-pending : (s : Scene) (row : EntryRow) (c : Cap) → has (pending_of s row) c ≡ (has row.entry.held c && not (is_revoked s row.holder c))
has-pending s row c =
    has-minus row.entry.held (against s row) c ∙ ap (λ b. has row.entry.held c && not b) (has-against s row c) ∙ rest (has row.entry.held c) (is_revoked s row.holder c)

of_less : (h w t : Bool) → (h ≡ true → w ≡ true) → (h && not t) ≡ ((w && not t) && h)
of_less true true true less = refl
of_less true true false less = refl
of_less true false t less = absurd (true≢false (sym (less refl)))
of_less false true true less = refl
of_less false true false less = refl
of_less false false t less = refl

-- of an entry that holds less
pub pending-less : (s : Scene) (row : EntryRow) (e : Entry) → IsSubset e.held row.entry.held → pending_of s (record row { entry = e }) ≡ meet (pending_of s row) e.held
pending-less s row e less = same_caps _ _ (λ c.
    has-pending s (record row { entry = e }) c ∙ of_less (has e.held c) (has row.entry.held c) (is_revoked s row.holder c) (less c)
    ∙ sym (has-meet (pending_of s row) e.held c ∙ ap (λ b. b && has e.held c) (has-pending s row c)))

-- by the same locks and grants
pub pending-same : (s t : Scene) (row : EntryRow) → ((part : Part) → lock_at s.locks row.holder.ino.0 part ≡ lock_at t.locks row.holder.ino.0 part)
    → permitted s.fs s.tree s.sessions row.holder ≡ permitted t.fs t.tree t.sessions row.holder → pending_of s row ≡ pending_of t row
pending-same s t row locks may = λ i. minus row.entry.held (union
    (union (against_lock A row (locks A i)) (union (against_lock L row (locks L i)) (union (against_lock X row (locks X i)) (against_lock F row (locks F i)))))
    (minus row.entry.held (may i)))

-- ---- where the pin is being revoked, all is

lost-all : (fs : List ℕ) (o : Option Subject) → has (permitted_to fs o) P ≡ false → (c : Cap) → has (permitted_to fs o) c ≡ false
lost-all fs None out c = absurd (true≢false (sym (has-caps_in (P ∷ []) P) ∙ out))
lost-all fs (Some s) out c = nothing_without_pin (question_of fs s) s.grants out c

-- no lock takes the pin
pin-of_lock : (part : Part) (client : ClientId) (o : Option LockState) → is_revoked_by part client P o ≡ false
pin-of_lock part client None = refl
pin-of_lock part client (Some (Stable state)) = refl
pin-of_lock part client (Some (Gather from to)) = ap (λ b. b && not (has (row_of part to client) P)) (pin_covers_none part)

true_or : (a l x f n : Bool) → a ≡ false → l ≡ false → x ≡ false → f ≡ false → ((a || (l || (x || f))) || n) ≡ true → n ≡ true
true_or a l x f n no_a no_l no_x no_f is = (λ i. (sym no_a i || (sym no_l i || (sym no_x i || sym no_f i))) || n) ∙ is

not_true : (b : Bool) → not b ≡ true → b ≡ false
not_true true is = sym is
not_true false is = refl

or_true : (a : Bool) → (a || true) ≡ true
or_true true = refl
or_true false = refl

pub pin-takes_all : (s : Scene) (row : EntryRow) → has (against s row) P ≡ true → (c : Cap) → has row.entry.held c ≡ true → has (against s row) c ≡ true
pin-takes_all s row pin c held =
    let taken : is_revoked s row.holder P ≡ true = (and_parts (has row.entry.held P) (is_revoked s row.holder P) (sym (has-against s row P) ∙ pin)).1 in
    let of : (part : Part) → is_revoked_of s row.holder P part ≡ false = λ part. pin-of_lock part row.holder.client (lock_at s.locks row.holder.ino.0 part) in
    let out : has (permitted s.fs s.tree s.sessions row.holder) P ≡ false = not_true _ (true_or _ _ _ _ _ (of A) (of L) (of X) (of F) taken) in
    has-against s row c ∙ (λ i. held i && (
    (is_revoked_of s row.holder c A || (is_revoked_of s row.holder c L || (is_revoked_of s row.holder c X || is_revoked_of s row.holder c F)))
    || not (lost-all s.fs (subject s.tree s.sessions row.holder) out c i)))
    ∙ or_true _
