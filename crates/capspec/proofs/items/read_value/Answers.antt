use Rattle.std.proofs.Common.{refl, sym}
use Rattle.capspec.specs.Paths.{names_of}
use Rattle.capspec.specs.Items.Item.{FsName, Gids, Path, RootSquash, Uid}
use Rattle.capspec.proofs.Drafting.{takes_nothing, takes_path}
use Rattle.capspec.proofs.items.read_value.Goals as goal

pub returns-in_ok-name-in-FsName-clause-ok : goal.returns-in_ok-name-in-FsName-clause-ok
returns-in_ok-name-in-FsName-clause-ok c = record { item = FsName c.in_ok-name-in-FsName.name; key_is = sym c.in-FsName.is; takes = c.in_ok-name-in-FsName.ensures.ok; whole = λ e. absurd (cc); adds = refl }

pub returns-in_ok-path-in-Path-clause-ok : goal.returns-in_ok-path-in-Path-clause-ok
returns-in_ok-path-in-Path-clause-ok c =
    let arm = c.in_ok-path-in-Path in
    record { item = Path (names_of arm.path.now); key_is = sym c.in-Path.is; takes = takes_path arm.path.now c.args.text.now arm.rest.now arm.ensures.ok; whole = λ e. absurd (cc); adds = (refl, refl) }

pub returns-in_ok-uid-in-Uid-clause-ok : goal.returns-in_ok-uid-in-Uid-clause-ok
returns-in_ok-uid-in-Uid-clause-ok c = record { item = Uid c.in_ok-uid-in-Uid.uid; key_is = sym c.in-Uid.is; takes = c.in_ok-uid-in-Uid.ensures.ok; whole = λ e. absurd (cc); adds = refl }

pub returns-in_ok-gids-in-Gids-clause-ok : goal.returns-in_ok-gids-in-Gids-clause-ok
returns-in_ok-gids-in-Gids-clause-ok c = record { item = Gids c.in_ok-gids-in-Gids.gids; key_is = sym c.in-Gids.is; takes = c.in_ok-gids-in-Gids.ensures.ok; whole = λ _. c.in_ok-gids-in-Gids.ensures.whole; adds = refl }

pub returns-in-RootSquash-clause-ok : goal.returns-in-RootSquash-clause-ok
returns-in-RootSquash-clause-ok c = record { item = RootSquash; key_is = sym c.in-RootSquash.is; takes = takes_nothing c.args.text.now (c.requires c.in-RootSquash.is); whole = λ e. absurd (cc); adds = refl }
