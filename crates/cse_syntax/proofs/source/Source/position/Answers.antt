use Rattle.std.proofs.Common.{◌≡◌, ◌∙◌, ℕ, true, false, List, length, get_or, Option, sym, ap}
use Rattle.std.proofs.Math.Dec.{ltb}
use Rattle.std.proofs.lemmas.Bool.{ltb-true, ltb-false}
use Rattle.std.proofs.lemmas.Option.{slice_get-get_or, slice_get_past}
use Rattle.cse_syntax_tree.specs.declared.token.Token.{Token}
use Rattle.cse_syntax.specs.Text.{or_else}
use Rattle.cse_syntax.specs.Place.{cut, line_of, column_of, start_of}
use Rattle.cse_syntax.proofs.source.Source.position.Goals as goal

start_there : (text : List ℕ) (ts xs : List Token) (n : ℕ) (x : Token) → xs ≡ ts → true ≡ ltb n (length xs) → x ≡ get_or xs n x → x.start ≡ start_of text ts n
start_there text ts xs n x d h e =
    let at : start_of text xs n ≡ x.start = ap (λ (o : Option Token). or_else o (λ t. t.start) (length text)) (slice_get-get_or xs n x (ltb-true n (length xs) (sym h))) ∙ ap (λ (t : Token). t.start) (sym e) in
    sym at ∙ ap (λ (us : List Token). start_of text us n) d

start_past : (text : List ℕ) (xs : List Token) (n : ℕ) → false ≡ ltb n (length xs) → length text ≡ start_of text xs n
start_past text xs n h = ap (λ (o : Option Token). or_else o (λ t. t.start) (length text)) (sym (slice_get_past xs n (ltb-false n (length xs) (sym h))))

pub returns-in-Some : goal.returns-in-Some
returns-in-Some c =
    let text : List ℕ = c.args.self.now.text.now in
    let at = start_there text c.args.self.now.tokens.items c.deref.result.now c.args.token c.in-Some.found.now c.deref.ensures.value c.in-Some.ensures.lookup.0 c.in-Some.ensures.lookup.1 in
    record {
      line = c.position_of.ensures.line ∙ ap (λ (n : ℕ). cut (line_of text n)) at;
      column = c.position_of.ensures.column ∙ ap (λ (n : ℕ). cut (column_of text n)) at;
    }

pub returns-in-None : goal.returns-in-None
returns-in-None c =
    let text : List ℕ = c.args.self.now.text.now in
    let at = start_past text c.deref.result.now c.args.token c.in-None.ensures.lookup.0 ∙ ap (λ (ts : List Token). start_of text ts c.args.token) c.deref.ensures.value in
    record {
      line = c.position_of-in-None.ensures.line ∙ ap (λ (n : ℕ). cut (line_of text n)) at;
      column = c.position_of-in-None.ensures.column ∙ ap (λ (n : ℕ). cut (column_of text n)) at;
    }
