-- Who takes part in the cases.
use Rattle.capbits.specs.declared.ids.ClientId.{ClientId}

abbrev pub first : ClientId
first = record { 0 = 1 }

abbrev pub second : ClientId
second = record { 0 = 2 }

abbrev pub third : ClientId
third = record { 0 = 3 }

abbrev pub fourth : ClientId
fourth = record { 0 = 4 }

abbrev pub fifth : ClientId
fifth = record { 0 = 5 }
