-- Which machine the arguments ask for.
use Rattle.std.specs.Prelude.{List, Some, None, Option, String, map, slice_index, string_bytes}
use Rattle.std.specs.Option.{option_map}
use Rattle.std.specs.declared.alloc.Global.{Global}
use Rattle.votes.specs.declared.types.Setup.{Setup}
use Rattle.votes.specs.Exchanges.{View, setup_of, IsOpened}
use Rattle.words.specs.Numbers.{numbers_of}

-- the setup that three numbers M F RATE are, with asks that are numbered from 1; nothing where the arguments are anything else
abbrev pub setup_asked : List (String Global) → Option Setup
setup_asked args = option_map (λ ns. setup_of (slice_index ns 0) (slice_index ns 1) (slice_index ns 2)) (numbers_of 3 (map string_bytes args))

-- a machine was made from that setup
abbrev pub IsMadeFrom : Option Setup → View → Type 0
IsMadeFrom None v = ⊥
IsMadeFrom (Some s) v = IsOpened s v
