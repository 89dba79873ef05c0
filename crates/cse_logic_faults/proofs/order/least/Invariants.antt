use Rattle.std.proofs.Common.{◌≡◌, map, drop}
use Rattle.std.specs.Option.{option_map}
use Rattle.cse_logic_faults.specs.Faults.{least_of}
use Rattle.cse_logic_faults.specs.Least.{both}
use Rattle.cse_logic_faults.specs.Listed.{listed}
use Rattle.cse_logic_faults.proofs.order.least.Given as goal

abbrev pub invariant-all : goal.invariant-all
invariant-all l = both (option_map listed l.least) (least_of (map listed (drop l.x-index l.all))) ≡ least_of (map listed l.all)
