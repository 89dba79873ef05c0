-- Files of which two are one.
use Rattle.std.proofs.Common.{◌≡◌, ◌∙◌, ap, sym, List, length}
use Rattle.std.proofs.lemmas.List.{length-map}
use Rattle.cse_files.specs.declared.clashing.Named.{Named}
use Rattle.cse_office.specs.declared.apart.Use.{Use}
use Rattle.cse_office.specs.Apart.{AreOf, asked_of, done_with}

pub as_many : (uses : List Use) (files : List Named) → AreOf uses files → length files ≡ length uses
as_many uses files are = sym (length-map files done_with) ∙ ap length are ∙ length-map uses asked_of
