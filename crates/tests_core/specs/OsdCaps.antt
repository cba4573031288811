-- Caps of an OSD, and what they open.
use Rattle.std.specs.Prelude.{ℕ, Bool, List, [], ◌∷◌, Result, Ok, Err, codes, length}
use Rattle.osd_caps.specs.Accesses.{rights}
use Rattle.osd_caps.specs.Caps.{caps_of, fault_in}
use Rattle.osd_caps.specs.Opening.{opens, opens_object}
use Rattle.osd_caps.specs.declared.access.Right.TheVariants.{Read, Write}
use Rattle.osd_caps.specs.declared.access.Rights.{Rights}
use Rattle.osd_caps.specs.declared.fault.OsdFault.{OsdFault}
use Rattle.osd_caps.specs.declared.fault.OsdFaultKind.{OsdFaultKind}
use Rattle.osd_caps.specs.declared.grant.OsdGrant.{OsdGrant}
use Rattle.osd_caps.specs.declared.tags.Application.{Application}

-- ---- pools

-- what a pool is tagged with for an application: one key with the value `FS`
abbrev pub tagged : List ℕ → List ℕ → List Application
tagged name key = record {
  name = record { ref_ptr = (0, 0); now = name };
  pairs = record { ref_ptr = (0, 0); now = record { key = record { ref_ptr = (0, 0); now = key }; value = record { ref_ptr = (0, 0); now = codes "FS" } } ∷ [] };
} ∷ []

-- a pool, with its tags, and a namespace of it
pub record Place : Type 0 where
  pub pool : List ℕ
  pub tags : List Application
  pub namespace : List ℕ

-- the default namespace of a pool of data and of one of metadata
abbrev pub of_data : Place
of_data = record { pool = codes "p"; tags = tagged (codes "cephfs") (codes "data"); namespace = [] }

abbrev pub of_metadata : Place
of_metadata = record { pool = codes "m"; tags = tagged (codes "cephfs") (codes "metadata"); namespace = [] }

-- and of one for another application, without keys
abbrev pub of_rbd : Place
of_rbd = record { pool = codes "r"; tags = record { name = record { ref_ptr = (0, 0); now = codes "rbd" }; pairs = record { ref_ptr = (0, 0); now = [] } } ∷ []; namespace = [] }

-- another namespace of a place
abbrev pub within : Place → List ℕ → Place
within place namespace = record place { namespace = namespace }

-- ---- what is opened

-- what is answered by the grants of a text, or what is wrong with it, which the first function places
abbrev pub answered : {A Fault : Type 0} → (Fault → OsdFault) → (List OsdGrant → A) → Result (List OsdGrant) Fault → Result A OsdFault
answered place answer (Ok grants) = Ok (answer grants)
answered place answer (Err fault) = Err (place fault)

-- whether all objects may be read, and written: what opens the object without a name opens all
abbrev pub rights_in : Place → List OsdGrant → Rights
rights_in at caps = rights (opens_object caps at.pool at.namespace at.tags [] Read) (opens_object caps at.pool at.namespace at.tags [] Write)

abbrev pub opened : List ℕ → Place → Result Rights OsdFault
opened text at = answered (fault_in text) (rights_in at) (caps_of text)

-- whether the object of this name may be read, and whether some object may
abbrev pub readable : List ℕ → List ℕ → Result (Bool × Bool) OsdFault
readable text name =
    answered (fault_in text) (λ caps. (opens_object caps of_data.pool of_data.namespace of_data.tags name Read, opens caps of_data.pool of_data.namespace of_data.tags Read)) (caps_of text)

-- how many grants are read
abbrev pub counted : List ℕ → Result ℕ OsdFault
counted text = answered (fault_in text) length (caps_of text)

-- what is wrong at a byte
abbrev pub wrong : OsdFaultKind → ℕ → Result ℕ OsdFault
wrong kind at = Err (record { at = at; kind = kind })
