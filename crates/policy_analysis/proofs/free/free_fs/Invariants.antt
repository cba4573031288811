use Rattle.std.proofs.Common.{◌≡◌, ℕ, ◌<◌, true, length, get_or}
use Rattle.std.specs.Prelude.{◌≢◌, IfSome, slice_get}
use Rattle.std.specs.List.{list_all}
use Rattle.capspec.specs.declared.grant.Grant.{Grant}
use Rattle.byte_sets.specs.Sets.{is_fs_name_byte}
use Rattle.policy_analysis.proofs.free.free_fs.Given as goal

abbrev pub invariant-loop-place : goal.invariant-loop-place
invariant-loop-place l = record {
  long : length l.bytes.items ≡ l.place;
  letters : list_all is_fs_name_byte l.bytes.items ≡ true;
  apart : (k : ℕ) (d : Grant) → k < l.place → IfSome (get_or l.grants k d).fsname (λ name. slice_get name k ≢ slice_get l.bytes.items k);
}
