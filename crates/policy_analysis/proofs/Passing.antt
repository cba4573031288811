-- A grant allows a question exactly if it fails by none of the rules.
use Rattle.std.proofs.Common.{◌≡◌, Bool, true, false, cond, Option, Some, refl}
use Rattle.std.specs.Prelude.{is_none}
use Rattle.std.proofs.lemmas.Bool.{false≢true}
use Rattle.capspec.specs.declared.grant.Grant.{Grant}
use Rattle.capgrant.specs.declared.rule.Rule.{Rule}
use Rattle.capgrant.specs.Question.{Question}
use Rattle.capgrant.specs.Failing.{fails_fsname, fails_gids, fails_mode_bits, fails_no_p, fails_no_s, fails_no_write, fails_not_own_group, fails_not_owner}
use Rattle.capgrant.specs.Failing.{fails_path, fails_root_squash, fails_uid, first_failing}
use Rattle.capgrant.specs.Verdict.{allows}

-- no rule fails that looks at neither owner nor mode
pub record PassesBase (q : Question) (h : Grant) : Type 0 where
  pub fsname : fails_fsname q h ≡ false
  pub uid : fails_uid q h ≡ false
  pub gids : fails_gids q h ≡ false
  pub path : fails_path q h ≡ false
  pub no_write : fails_no_write q h ≡ false
  pub root_squash : fails_root_squash q h ≡ false
  pub no_p : fails_no_p q h ≡ false
  pub no_s : fails_no_s q h ≡ false

-- none of the others fails
pub record PassesAttr (q : Question) (h : Grant) : Type 0 where
  pub not_owner : fails_not_owner q h ≡ false
  pub not_own_group : fails_not_own_group q h ≡ false
  pub mode_bits : fails_mode_bits q h ≡ false

pub record Passes (q : Question) (h : Grant) : Type 0 where
  pub base : PassesBase q h
  pub attr : PassesAttr q h

-- the first rule, and the others
one_less : (b : Bool) (r : Rule) (rest : Option Rule) → is_none (cond b (Some r) rest) ≡ true → (b ≡ false) × (is_none rest ≡ true)
one_less true r rest e = absurd (false≢true e)
one_less false r rest e = (refl, e)

one_more : (b : Bool) (r : Rule) (rest : Option Rule) → b ≡ false → is_none rest ≡ true → is_none (cond b (Some r) rest) ≡ true
one_more b r rest passes none = rw passes none

pub passes_all : (q : Question) (h : Grant) → allows q h ≡ true → Passes q h
unfolding first_failing
passes_all q h e =
    let r1 = one_less (fails_fsname q h) _ _ e in
    let r2 = one_less (fails_uid q h) _ _ r1.1 in
    let r3 = one_less (fails_gids q h) _ _ r2.1 in
    let r4 = one_less (fails_path q h) _ _ r3.1 in
    let r5 = one_less (fails_no_write q h) _ _ r4.1 in
    let r6 = one_less (fails_root_squash q h) _ _ r5.1 in
    let r7 = one_less (fails_no_p q h) _ _ r6.1 in
    let r8 = one_less (fails_no_s q h) _ _ r7.1 in
    let r9 = one_less (fails_not_owner q h) _ _ r8.1 in
    let r10 = one_less (fails_not_own_group q h) _ _ r9.1 in
    let r11 = one_less (fails_mode_bits q h) _ _ r10.1 in
    record {
      base = record { fsname = r1.0; uid = r2.0; gids = r3.0; path = r4.0; no_write = r5.0; root_squash = r6.0; no_p = r7.0; no_s = r8.0 };
      attr = record { not_owner = r9.0; not_own_group = r10.0; mode_bits = r11.0 };
    }

pub allowed : (q : Question) (h : Grant) → PassesBase q h → PassesAttr q h → allows q h ≡ true
unfolding first_failing
allowed q h base attr =
    one_more (fails_fsname q h) _ _ base.fsname
    (one_more (fails_uid q h) _ _ base.uid
    (one_more (fails_gids q h) _ _ base.gids
    (one_more (fails_path q h) _ _ base.path
    (one_more (fails_no_write q h) _ _ base.no_write
    (one_more (fails_root_squash q h) _ _ base.root_squash
    (one_more (fails_no_p q h) _ _ base.no_p
    (one_more (fails_no_s q h) _ _ base.no_s
    (one_more (fails_not_owner q h) _ _ attr.not_owner
    (one_more (fails_not_own_group q h) _ _ attr.not_own_group
    (one_more (fails_mode_bits q h) _ _ attr.mode_bits refl))))))))))
