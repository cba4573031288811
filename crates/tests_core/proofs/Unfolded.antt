-- What an answer unfolds to compute a case.
use Rattle.std.specs.Prelude.{⊤}
use Rattle.std.specs.Net.Reader.{read_ipv4, read_ipv6, read_number, read_octet, read_segment, read_segments}
use Rattle.capbits.specs.Caps.{bits_of, caps_of, caps_where, has}
use Rattle.capbits.specs.Sets.{caps_in, is_empty, meet, minus, no_caps, of_part, union}
use Rattle.capbits.specs.Text.{group_of, groups_in, letters_in, text_of}
use Rattle.locktable.specs.Rows.{allowed_of, row_of}
use Rattle.locktable.specs.Targets.{target_of}
use Rattle.capgrant.specs.Failing.{fails_fsname, fails_gids, fails_mode_bits, fails_no_p, fails_no_s, fails_no_write, fails_not_own_group, fails_not_owner}
use Rattle.capgrant.specs.Failing.{fails_path, fails_root_squash, fails_uid, first_failing}
use Rattle.capgrant.specs.Permitted.{permitted_of}
use Rattle.capgrant.specs.Question.{listed_gids}
use Rattle.capgrant.specs.Verdict.{verdict_of}
use Rattle.inotree.specs.Tree.{names_up, path_of}
use Rattle.lockmachine.specs.Moves.{first_move}
use Rattle.osd_caps.specs.Accesses as accesses
use Rattle.osd_caps.specs.Caps as caps
use Rattle.osd_caps.specs.Opening as opening
use Rattle.osd_caps.specs.Scopes as scopes
use Rattle.osd_caps.specs.Words as words
use Rattle.release_rules.specs.Failing as failing
use Rattle.release_rules.specs.Clients.{is_for, refuses}
use Rattle.release_rules.specs.Question.{is_own_group}
use Rattle.release_rules.specs.Verdicts.{lets_mount}

-- sets of caps, their texts and their numbers
unfoldable pub sets : ⊤
unfolding bits_of caps_of caps_where has caps_in is_empty meet minus no_caps of_part union group_of groups_in letters_in text_of
sets = tt

-- and the table of the locks
unfoldable pub locks : ⊤
unfolding sets allowed_of row_of target_of
locks = tt

-- the rules of a grant
unfoldable pub rules : ⊤
unfolding fails_fsname fails_gids fails_mode_bits fails_no_p fails_no_s fails_no_write fails_not_own_group fails_not_owner fails_path fails_root_squash fails_uid first_failing listed_gids verdict_of
rules = tt

-- a step
unfoldable pub steps : ⊤
unfolding locks rules permitted_of names_up path_of first_move
steps = tt

-- the rules of releases, and the networks of their texts
unfoldable pub releases : ⊤
unfolding failing.user_of failing.fails_fsname failing.fails_uid failing.fails_gids failing.fails_path failing.fails_no_write failing.fails_root_squash failing.fails_no_p failing.fails_no_s failing.fails_not_owner failing.fails_not_own_group failing.fails_mode_bits failing.fails_no_f failing.fails_network failing.first_failing is_for refuses is_own_group lets_mount read_ipv4 read_ipv6 read_number read_octet read_segment read_segments
releases = tt

-- caps of an OSD
unfoldable pub osd_caps : ⊤
unfolding words.behind words.run_at words.behind_spaces words.behind_keyword words.behind_spaced words.behind_sign words.behind_key words.quoted_at words.string_at words.word_at words.behind_star scopes.pool_at scopes.prefix_at scopes.namespace_of scopes.namespace_at scopes.tag_part_of scopes.tag_part_at scopes.behind_equals scopes.pair_at scopes.tag_at scopes.place_at scopes.scope_at accesses.letter_at accesses.letters_at accesses.behind_any accesses.behind_method accesses.behind_class accesses.behind_calls accesses.all_at accesses.spelled_at accesses.rights_at accesses.profile_of caps.network_at caps.grant_end caps.allow_at caps.profile_at caps.grant_at caps.next_at caps.step_at caps.caps_of opening.fits_pair opening.fits_pairs opening.fits_application opening.gives opening.opens_by opening.opens_some
osd_caps = tt
