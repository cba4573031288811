-- What the maps and sets of a table of sessions answer, all in one.
use Rattle.tests_core.proofs.ByNumber.{contains-less, contains-more, contains-none, get-less, get-more, get-none, len-less, len-more, len-none, set_len-more, set_len-none}

pub ruleset of_sessions = (get-none, get-more, get-less, contains-none, contains-more, contains-less, len-none, len-more, len-less, set_len-none, set_len-more)
