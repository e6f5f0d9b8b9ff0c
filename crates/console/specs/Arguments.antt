-- What a program is called with.
use Rattle.std.specs.Prelude.{◌≡◌, List, Some, String, codes, slice_get, string_bytes}
use Rattle.std.specs.Option.{option_map}
use Rattle.std.specs.declared.alloc.Global.{Global}

-- the first argument is `--help`
abbrev pub AsksForHelp : List (String Global) → Type 0
AsksForHelp args = option_map string_bytes (slice_get args 0) ≡ Some (codes "--help")
