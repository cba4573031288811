-- How many clients the gathers of an inode wait for.
use Rattle.std.specs.Prelude.{ℕ, ◌-◌}
use Rattle.capbits.specs.declared.cap.Part.{Part}
use Rattle.capbits.specs.declared.cap.Part.TheVariants.{A, F, L, X}
use Rattle.locktable.specs.declared.counts.Counts.{Counts}

-- that of a part
abbrev pub count_in : Part → Counts → ℕ
count_in A counts = counts.auth
count_in L counts = counts.link
count_in X counts = counts.xattr
count_in F counts = counts.file

abbrev pub with_count_in : Part → ℕ → Counts → Counts
with_count_in A n counts = record counts { auth = n }
with_count_in L n counts = record counts { link = n }
with_count_in X n counts = record counts { xattr = n }
with_count_in F n counts = record counts { file = n }

-- one less, if not 0
abbrev pub one_less_in : Part → Counts → Counts
one_less_in part counts = with_count_in part (count_in part counts - 1) counts

abbrev pub no_counts : Counts
no_counts = record { auth = 0; link = 0; xattr = 0; file = 0 }
