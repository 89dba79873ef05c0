use Rattle.std.proofs.Common.{ap, refl, ◌∙◌}
use Rattle.cse_syntax_tree.specs.declared.token.Kind.TheVariants as k
use Rattle.cse_syntax_tree.specs.declared.token.Mark.TheVariants as m
use Rattle.cse_syntax_tree.specs.Tree as tree
use Rattle.cse_syntax_tree.specs.Word.{Sign, words}
use Rattle.cse_syntax.specs.ReadingSource as rule
use Rattle.cse_syntax.specs.ReadingSource.{declaration}
use Rattle.cse_syntax.proofs.FirstWords.{reads_behind, taken_sign}
use Rattle.cse_syntax.proofs.parser.Parser.declaration.Goals as goal

pub returns-in-Mark-Numeric-clause-reads : goal.returns-in-Mark-Numeric-clause-reads
unfolding declaration
returns-in-Mark-Numeric-clause-reads c =
    let mark = rw c.in-Mark-Numeric.is at c.in-Mark-Numeric.field-0-is in
    let first = taken_sign _ (words c.take.new.self.rest.now) c.in-Some.first m.Numeric c.in-Some.ensures.value.0 (c.in-Mark-Numeric.is ∙ ap k.Mark mark) in
    reads_behind tree.declaration (rule.declaration c.args.room) rule.numeric _ _ _ _ (Sign m.Numeric) first c.in-Some.ensures.shorter (λ ws. refl) c.numeric.ensures

pub returns-in-Mark-Alpha-clause-reads : goal.returns-in-Mark-Alpha-clause-reads
unfolding declaration
returns-in-Mark-Alpha-clause-reads c =
    let mark = rw c.in-Mark-Alpha.is at c.in-Mark-Alpha.field-0-is in
    let first = taken_sign _ (words c.take.new.self.rest.now) c.in-Some.first m.Alpha c.in-Some.ensures.value.0 (c.in-Mark-Alpha.is ∙ ap k.Mark mark) in
    reads_behind tree.declaration (rule.declaration c.args.room) rule.alpha _ _ _ _ (Sign m.Alpha) first c.in-Some.ensures.shorter (λ ws. refl) c.alpha.ensures

pub returns-in-Mark-Array-clause-reads : goal.returns-in-Mark-Array-clause-reads
unfolding declaration
returns-in-Mark-Array-clause-reads c =
    let mark = rw c.in-Mark-Array.is at c.in-Mark-Array.field-0-is in
    let first = taken_sign _ (words c.take.new.self.rest.now) c.in-Some.first m.Array c.in-Some.ensures.value.0 (c.in-Mark-Array.is ∙ ap k.Mark mark) in
    reads_behind tree.declaration (rule.declaration c.args.room) rule.array_declaration _ _ _ _ (Sign m.Array) first c.in-Some.ensures.shorter (λ ws. refl) c.array_declaration.ensures

pub returns-in-Mark-Function-clause-reads : goal.returns-in-Mark-Function-clause-reads
unfolding declaration
returns-in-Mark-Function-clause-reads c =
    let mark = rw c.in-Mark-Function.is at c.in-Mark-Function.field-0-is in
    let first = taken_sign _ (words c.take.new.self.rest.now) c.in-Some.first m.Function c.in-Some.ensures.value.0 (c.in-Mark-Function.is ∙ ap k.Mark mark) in
    reads_behind tree.declaration (rule.declaration c.args.room) (rule.function c.args.room) _ _ _ _ (Sign m.Function) first c.in-Some.ensures.shorter (λ ws. refl) c.function.ensures
