use Rattle.std.proofs.Common.{ap, sym, drop, ◌∙◌}
use Rattle.cse_syntax_tree.specs.Word.{words}
use Rattle.cse_syntax.specs.ReadingSource as rule
use Rattle.cse_syntax.proofs.FirstWords.{words_none, sign_first, declares_none}
use Rattle.cse_syntax.proofs.parser.Parser.starts_declaration.Goals as goal

pub returns-in-None : goal.returns-in-None
returns-in-None c = sym (ap rule.starts_declaration (words_none c.args.self.now.rest.now c.in-None.ensures.value))

pub returns-in-Mark : goal.returns-in-Mark
returns-in-Mark c =
    c.declares.ensures (drop 1 (words c.args.self.now.rest.now))
    ∙ sym (ap rule.starts_declaration (sign_first c.args.self.now.rest.now _ _ c.in-Some.ensures.value c.in-Mark.is))

pub returns-in_default : goal.returns-in_default
returns-in_default c = declares_none c.args.self.now.rest.now _ c.in-Some.ensures.value c.in_default.not-Mark
