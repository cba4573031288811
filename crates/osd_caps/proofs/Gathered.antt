-- The grants of a text, one behind the other, as a loop gathers them.
use Rattle.std.proofs.Common.{◌≡◌, ℕ, ◌+◌, ◌<◌, ◌≤◌, List, [], length, refl, arith}
use Rattle.osd_caps.specs.declared.grant.OsdGrant.{OsdGrant}
use Rattle.osd_caps.specs.Caps.{caps_of, grants_from, past_spaces}

-- These grants were read, and the rest is left of the text.
pub record Gathers (text rest : List ℕ) (grants : List OsdGrant) : Type 0 where
  pub most : ℕ
  pub above : length rest < most
  pub within : length rest ≤ length text
  pub same : grants_from most grants rest ≡ caps_of text

pub gathers_first : (text rest : List ℕ) (grants : List OsdGrant) → grants ≡ [] → rest ≡ past_spaces text → length rest ≤ length text → Gathers text rest grants
unfolding caps_of
gathers_first text rest grants none rest-is within = record { most = length text + 1; above = omega arith; within = within; same = rw (none, rest-is) refl }
