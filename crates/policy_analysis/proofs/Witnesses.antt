-- What was found is a witness, and what was not is covered.
use Rattle.std.proofs.Common.{◌≡◌, ℕ, ◌+◌, ◌<◌, Bool, true, false, List, sym, ap, ◌∙◌}
use Rattle.std.specs.Prelude.{All, Contains, MatchOption}
use Rattle.std.proofs.lemmas.List.Elements.{All-contains}
use Rattle.capspec.specs.declared.grant.Grant.{Grant}
use Rattle.capgrant.specs.declared.answer.Verdict.TheVariants.{Allowed}
use Rattle.capgrant.specs.Question.{Question, contains, question}
use Rattle.capgrant.specs.Verdict.{allows, granted, verdict_of}
use Rattle.capgrant.proofs.Verdicts.{allowed_at}
use Rattle.policy_analysis.specs.declared.asking.Found.{Found}
use Rattle.policy_analysis.specs.declared.witness.Witness.{Witness}
use Rattle.policy_analysis.specs.Comparing.{IsWitness, question_of}
use Rattle.policy_analysis.specs.Free.{NoneLists, NoneNames}
use Rattle.policy_analysis.specs.declared.asking.Accesses.{Accesses}
use Rattle.policy_analysis.specs.Asking.{CoversGrant, IsFound, IsSettingFor, Setting, asked, is_wanted, setting}
use Rattle.policy_analysis.specs.Searching.{CoversAs}
use Rattle.policy_analysis.proofs.Lists.{found}

-- ---- for one grant

pub setting_fits : (accesses : Accesses) (old new : List Grant) (fs : List ℕ) (path : List (List ℕ)) (nobody : ℕ) (g : Grant) → Contains new g → path ≡ g.path → MatchOption g.fsname (NoneNames fs old) (λ name. fs ≡ name) → 0 < nobody → NoneLists nobody old → NoneLists nobody new → IsSettingFor (setting accesses old new fs path nobody) g
setting_fits accesses old new fs path nobody g among path_is fs_is above in_old in_new = record {
  among = among;
  path = path_is;
  fs = fs_is;
  above = above;
  old = in_old;
  own = All-contains (λ h. contains h.gids nobody ≡ false) new g in_new among;
}

-- the question of the witness is the one that was asked
pub is_witness : (s : Setting) (root : Bool) (f : Found) (fs : List ℕ) (path : List (List ℕ)) (w : Witness) → IsFound s root f → fs ≡ s.fs → path ≡ s.path → question_of w ≡ question fs f.caller path f.attr f.access → w.grant ≡ f.place + 1 → IsWitness s.old s.new w
is_witness s root f fs path w is fs_is path_is asks number =
    let same : question_of w ≡ asked s f.caller f.attr f.access =
    asks
    ∙ ap (λ (name : List ℕ). question name f.caller path f.attr f.access) fs_is
    ∙ ap (λ (names : List (List ℕ)). question s.fs f.caller names f.attr f.access) path_is in
    record {
      allowed = ap (λ (q : Question). verdict_of q s.new) same ∙ sym (allowed_at (asked s f.caller f.attr f.access) s.new f.place is.allowed) ∙ ap Allowed (sym number);
      denied = ap (λ (q : Question). granted q s.old) same ∙ is.denied;
    }

-- its access is one of those that are asked for
pub wanted_witness : (s : Setting) (root : Bool) (f : Found) (fs : List ℕ) (path : List (List ℕ)) (w : Witness) → IsFound s root f → question_of w ≡ question fs f.caller path f.attr f.access → is_wanted s.accesses w.access ≡ true
wanted_witness s root f fs path w is asks = ap (λ (q : Question). is_wanted s.accesses q.access) asks ∙ is.wanted

-- ---- for all grants

pub each_covers_all : (accesses : Accesses) (old new : List Grant) (root : Bool) → All (CoversGrant accesses old root) new → CoversAs accesses old new root
each_covers_all accesses old new root all q wanted rooted some =
    let one = found (CoversGrant accesses old root) (allows q) new all some in
    one.1 q wanted one.2 rooted
