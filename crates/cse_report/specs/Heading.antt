-- The heading that waits for the next line.
use Rattle.std.specs.Prelude.{ℕ, List, []}
use Rattle.cse_report.specs.declared.lines.Heading.{Heading}
use Rattle.cse_report.specs.declared.lines.Heading.TheVariants as headings
use Rattle.cse_report.specs.Listing.{case_heading, run_heading}

-- none, that of the application, or that of the case with these id columns
abbrev pub waiting : Heading → List ℕ → List ℕ
waiting headings.Nothing ids = []
waiting headings.Run ids = run_heading
waiting headings.Case ids = case_heading ids
