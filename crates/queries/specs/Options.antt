-- The options of `explain`.
use Rattle.std.specs.Prelude.{ℕ, List, [], ◌∷◌, codes}
use Rattle.queries.specs.declared.options.Opt.{Opt}
use Rattle.queries.specs.declared.options.Opt.TheVariants.{Access, Addr, Fs, Gid, Grants, Group, Groups, Mode, Owner, Path, Uid}

-- every option but the grants, in the order in which their values are tested
abbrev pub asking_options : List Opt
asking_options = Fs ∷ Uid ∷ Gid ∷ Groups ∷ Path ∷ Owner ∷ Group ∷ Mode ∷ Access ∷ Addr ∷ []

-- every option, in that order
abbrev pub all_options : List Opt
all_options = Grants ∷ asking_options

-- the name of an option, without its two dashes
abbrev pub option_name : Opt → List ℕ
option_name Grants = codes "grants"
option_name Fs = codes "fs"
option_name Uid = codes "uid"
option_name Gid = codes "gid"
option_name Groups = codes "groups"
option_name Path = codes "path"
option_name Owner = codes "owner"
option_name Group = codes "group"
option_name Mode = codes "mode"
option_name Access = codes "access"
option_name Addr = codes "addr"
