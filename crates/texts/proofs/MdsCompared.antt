-- The lines of a comparison by the rules of a release are those of one.
use Rattle.std.proofs.Common.{◌≡◌, ℕ, ◌≤◌, Bool, true, false, Option, Some, None, List, [], ◌++◌, refl, sym, ap, ◌∙◌}
use Rattle.std.proofs.Common.{append_assoc, arith}
use Rattle.std.specs.Prelude.{IfSome, codes, if◌then◌else◌}
use Rattle.std.proofs.lemmas.List.{append_cancel_left}
use Rattle.policy_analysis.specs.declared.compare_by.Change.{Change}
use Rattle.policy_analysis.specs.declared.witness.Witness.{Witness}
use Rattle.texts.specs.Comparing.{witness_text}
use Rattle.texts.specs.Lines.{IsReported, TellTheSame}
use Rattle.texts.specs.MdsChanges.{SameChangeIf, mds_change_in, mds_changes, mds_line, networks_in}
use Rattle.texts.specs.declared.mds_change.Networks.{Networks}
use Rattle.texts.specs.declared.mds_change.Networks.TheVariants.{Compared, NotCompared}
use Rattle.texts.specs.declared.shape.Shape.TheVariants.{Lines}
use Rattle.texts.proofs.Compared.{one_witness}
use Rattle.texts.proofs.Quoted.{clash, first_byte}

-- ---- a line

abbrev word : List ℕ → Bool → List ℕ
word stem by = if by then stem ++ codes " by address" else stem

-- what stands behind the stem of its word, and behind the line
abbrev behind : Bool → Witness → List ℕ → List ℕ
behind true w s = codes " by address: " ++ ((witness_text w ++ codes "\n") ++ s)
behind false w s = codes ": " ++ ((witness_text w ++ codes "\n") ++ s)

laid_out : (stem : List ℕ) (by : Bool) (w : Witness) (s : List ℕ) → mds_line (word stem by) w ++ s ≡ stem ++ behind by w s
laid_out stem true w s = simp append_assoc
laid_out stem false w s = simp append_assoc

one_behind : (a b : Bool) (v w : Witness) (s t : List ℕ) → IsReported v → IsReported w → behind a v s ≡ behind b w t → (TellTheSame v w × (a ≡ b)) × (s ≡ t)
one_behind true true v w s t reported too same =
    let both = one_witness v w s t reported too (append_cancel_left (codes " by address: ") _ _ same) in
    ((both.0, refl), both.1)
one_behind true false v w s t reported too same = clash 32 58 (omega arith) (ap first_byte same)
one_behind false true v w s t reported too same = clash 32 58 (omega arith) (sym (ap first_byte same))
one_behind false false v w s t reported too same =
    let both = one_witness v w s t reported too (append_cancel_left (codes ": ") _ _ same) in
    ((both.0, refl), both.1)

-- ---- what was lost, and what was not compared

abbrev IsToldOf : Change → Type 0
IsToldOf c = IsReported c.witness

abbrev lost : Change → List ℕ → List ℕ
lost c s = codes "lost" ++ behind c.by_address c.witness s

abbrev end : Option Change → Networks → List ℕ → List ℕ
end l n s = mds_change_in Lines (codes "lost") (codes "lost by address") l ++ (networks_in Lines n ++ s)

end_of : (c : Change) (n : Networks) (s : List ℕ) → end (Some c) n s ≡ lost c (networks_in Lines n ++ s)
end_of c n s = laid_out (codes "lost") c.by_address c.witness (networks_in Lines n ++ s)

-- What stands behind is no such line: it is empty, or begins with a lower byte.

one_networks : (n o : Networks) (s t : List ℕ) → first_byte s ≤ 98 → first_byte t ≤ 98 → networks_in Lines n ++ s ≡ networks_in Lines o ++ t → (n ≡ o) × (s ≡ t)
one_networks Compared Compared s t low also same = (refl, same)
one_networks Compared NotCompared s t low also same = clash (first_byte s) 110 (omega (arith, low)) (ap first_byte same)
one_networks NotCompared Compared s t low also same = clash (first_byte t) 110 (omega (arith, also)) (sym (ap first_byte same))
one_networks NotCompared NotCompared s t low also same = (refl, append_cancel_left (codes "networks not compared: --addr names an address\n") s t same)

-- a text of networks does not begin as a loss does
no_loss : {A : Type 0} (n : Networks) (c : Change) (r s : List ℕ) → first_byte s ≤ 98 → networks_in Lines n ++ s ≡ lost c r → A
no_loss Compared c r s low same = clash (first_byte s) 108 (omega (arith, low)) (ap first_byte same)
no_loss NotCompared c r s low same = clash 108 110 (omega arith) (sym (ap first_byte same))

one_end : (l m : Option Change) (n o : Networks) (s t : List ℕ) → IfSome l IsToldOf → IfSome m IsToldOf → first_byte s ≤ 98 → first_byte t ≤ 98 → end l n s ≡ end m o t → SameChangeIf l m × (n ≡ o) × (s ≡ t)
one_end None None n o s t reported too low also same =
    let both = one_networks n o s t low also same in
    (tt, both.0, both.1)
one_end None (Some c) n o s t reported too low also same = no_loss n c (networks_in Lines o ++ t) s low (same ∙ end_of c o t)
one_end (Some b) None n o s t reported too low also same = no_loss o b (networks_in Lines n ++ s) t also (sym same ∙ end_of b n s)
one_end (Some b) (Some c) n o s t reported too low also same =
    let bare = append_cancel_left (codes "lost") _ _ (sym (end_of b n s) ∙ same ∙ end_of c o t) in
    let first = one_behind b.by_address c.by_address b.witness c.witness (networks_in Lines n ++ s) (networks_in Lines o ++ t) reported too bare in
    let both = one_networks n o s t low also first.1 in
    (first.0, both.0, both.1)

-- ---- the whole

abbrev gained : Change → List ℕ → List ℕ
gained c s = codes "gained" ++ behind c.by_address c.witness s

with_gain : (c : Change) (l : Option Change) (n : Networks) (s : List ℕ) → mds_changes Lines (Some c) l n ++ s ≡ gained c (end l n s)
with_gain c l n s =
    let gain : List ℕ = mds_change_in Lines (codes "gained") (codes "gained by address") (Some c) in
    let loss : List ℕ = mds_change_in Lines (codes "lost") (codes "lost by address") l in
    append_assoc (gain ++ loss) (networks_in Lines n) s ∙ append_assoc gain loss (networks_in Lines n ++ s) ∙ laid_out (codes "gained") c.by_address c.witness (end l n s)

-- without a gain the first byte is that of a loss, or of "the same"
as_end : (c : Change) (n : Networks) (s : List ℕ) → mds_changes Lines None (Some c) n ++ s ≡ end (Some c) n s
as_end c n s = append_assoc (mds_change_in Lines (codes "lost") (codes "lost by address") (Some c)) (networks_in Lines n) s

with_loss : (c : Change) (n : Networks) (s : List ℕ) → mds_changes Lines None (Some c) n ++ s ≡ lost c (networks_in Lines n ++ s)
with_loss c n s = as_end c n s ∙ end_of c n s

no_gain : {A : Type 0} (c : Change) (r : List ℕ) (l : Option Change) (n : Networks) (s : List ℕ) → gained c r ≡ mds_changes Lines None l n ++ s → A
no_gain c r None n s same = clash 103 116 (omega arith) (ap first_byte same)
no_gain c r (Some b) n s same = clash 103 108 (omega arith) (ap first_byte (same ∙ with_loss b n s))

pub one_mds_comparison_before : (g h l m : Option Change) (n o : Networks) (s t : List ℕ) → IfSome g IsToldOf → IfSome h IsToldOf → IfSome l IsToldOf → IfSome m IsToldOf → first_byte s ≤ 98 → first_byte t ≤ 98
    → mds_changes Lines g l n ++ s ≡ mds_changes Lines h m o ++ t → (SameChangeIf g h × SameChangeIf l m × (n ≡ o)) × (s ≡ t)
one_mds_comparison_before None None None None n o s t a b c d low also same =
    let both = one_networks n o s t low also (append_cancel_left (codes "the same\n") (networks_in Lines n ++ s) (networks_in Lines o ++ t) same) in
    ((tt, tt, both.0), both.1)
one_mds_comparison_before None None None (Some m) n o s t a b c d low also same = clash 108 116 (omega arith) (sym (ap first_byte (same ∙ with_loss m o t)))
one_mds_comparison_before None None (Some l) None n o s t a b c d low also same = clash 108 116 (omega arith) (ap first_byte (sym (with_loss l n s) ∙ same))
one_mds_comparison_before None None (Some l) (Some m) n o s t a b c d low also same =
    let both = one_end (Some l) (Some m) n o s t c d low also (sym (as_end l n s) ∙ same ∙ as_end m o t) in
    ((tt, both.0, both.1), both.2)
one_mds_comparison_before None (Some h) l m n o s t a b c d low also same = no_gain h (end m o t) l n s (sym (with_gain h m o t) ∙ sym same)
one_mds_comparison_before (Some g) None l m n o s t a b c d low also same = no_gain g (end l n s) m o t (sym (with_gain g l n s) ∙ same)
one_mds_comparison_before (Some g) (Some h) l m n o s t a b c d low also same =
    let bare = append_cancel_left (codes "gained") _ _ (sym (with_gain g l n s) ∙ same ∙ with_gain h m o t) in
    let first = one_behind g.by_address h.by_address g.witness h.witness (end l n s) (end m o t) a b bare in
    let both = one_end l m n o s t c d low also first.1 in
    ((first.0, both.0, both.1), both.2)

pub one_mds_comparison : (g h l m : Option Change) (n o : Networks) → IfSome g IsToldOf → IfSome h IsToldOf → IfSome l IsToldOf → IfSome m IsToldOf
    → mds_changes Lines g l n ≡ mds_changes Lines h m o → SameChangeIf g h × SameChangeIf l m × (n ≡ o)
one_mds_comparison g h l m n o a b c d same = (one_mds_comparison_before g h l m n o [] [] a b c d (omega arith) (omega arith) (ap (λ (r : List ℕ). r ++ []) same)).0
