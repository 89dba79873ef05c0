-- The tables beside a code.
use Rattle.std.specs.Prelude.{map}
use Rattle.std.specs.String.{string_bytes}
use Rattle.cse_compile.specs.Pools.{PoolLists}
use Rattle.cse_compile.specs.declared.pooled.Pooled as rust

abbrev pub pools_in : rust.Pooled → PoolLists
pools_in x = record { constants = x.constants.items; limits = x.limits.items; texts = map string_bytes x.texts.items }
