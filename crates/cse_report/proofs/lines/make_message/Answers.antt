use Rattle.std.proofs.Common.{◌≡◌, ◌++◌, ◌∷◌, ◌-◌, [], ℕ, List, length, take, drop, ap, sym, ◌∙◌, subst, append_assoc, arith}
use Rattle.std.specs.Prelude.{codes}
use Rattle.std.specs.Fmt.{decimal}
use Rattle.std.specs.Str.{IsUtf8}
use Rattle.std.proofs.lemmas.List.{drop_at, length-append, take_at}
use Rattle.cse_report.specs.declared.spans.TextSpan.{TextSpan}
use Rattle.cse_report.specs.Heading.{waiting}
use Rattle.cse_report.specs.MessageText.{message_text}
use Rattle.cse_report.specs.Spans.{IsText, text_at}
use Rattle.cse_report.proofs.lines.make_message.Goals as goal

-- the line, behind its heading
line_put : (heading front text bytes all : List ℕ) → bytes ≡ heading ++ (front ++ 32 ∷ []) → all ≡ (bytes ++ text) ++ 10 ∷ [] → all ≡ heading ++ ((front ++ (32 ∷ text)) ++ 10 ∷ [])
line_put heading front text bytes all start is = is ∙ (ap (λ (l : List ℕ). (l ++ text) ++ 10 ∷ []) start ∙ simp append_assoc)

-- a text that stands behind bytes, and before others
text_put : (bytes text more all : List ℕ) (s : TextSpan) → all ≡ (bytes ++ text) ++ more → s.start ≡ length bytes → s.end ≡ length (bytes ++ text) → text_at all s ≡ text
text_put bytes text more all s is from to =
    let width : length text ≡ s.end - s.start = omega (arith, length-append bytes text) in
    ap (λ (l : List ℕ). take (s.end - s.start) (drop s.start l)) (is ∙ append_assoc bytes text more)
    ∙ (ap (λ (l : List ℕ). take (s.end - s.start) l) (drop_at bytes (text ++ more) s.start (sym from)) ∙ take_at text more (s.end - s.start) width)

is_put : (bytes text more all : List ℕ) (s : TextSpan) → all ≡ (bytes ++ text) ++ more → s.start ≡ length bytes → s.end ≡ length (bytes ++ text) → IsUtf8 text → IsText all s
is_put bytes text more all s is from to utf8 = record {
  ordered = omega (arith, length-append bytes text);
  inside = omega (arith, ap length is, length-append (bytes ++ text) more);
  utf8 = subst (λ (l : List ℕ). IsUtf8 l) (sym (text_put bytes text more all s is from to)) utf8;
}

pub returns-clause-line : goal.returns-clause-line
returns-clause-line c =
    let all = c.in_ok-extend_from_slice.ensures.items ∙ ap (λ (l : List ℕ). l ++ 10 ∷ []) c.in_ok-put_message.ensures.bytes in
    line_put (waiting c.args.heading c.args.ids.now) (codes "M " ++ decimal c.args.number) (message_text c.args.text.now c.args.args.now) c.make_message_start.new.out.items c.extend_from_slice.new.self.items
    c.in_ok-make_message_start.ensures all

pub returns-clause-place : goal.returns-clause-place
returns-clause-place c =
    let bytes = c.make_message_start.new.out.items in
    let text = message_text c.args.text.now c.args.args.now in
    let s : TextSpan = record { start = c.len-start.result; end = c.len-end.result } in
    let all = c.in_ok-extend_from_slice.ensures.items ∙ ap (λ (l : List ℕ). l ++ 10 ∷ []) c.in_ok-put_message.ensures.bytes in
    let from : c.len-start.result ≡ length bytes = omega (arith, c.len-start.ensures, c.make_message_start.new.out.ok.0) in
    let to : c.len-end.result ≡ length (bytes ++ text) = omega (arith, c.len-end.ensures, c.put_message.new.out.ok.0, ap length c.in_ok-put_message.ensures.bytes) in
    is_put bytes text (10 ∷ []) c.extend_from_slice.new.self.items s all from to c.in_ok-put_message.ensures.utf8

pub returns-clause-text : goal.returns-clause-text
returns-clause-text c =
    let bytes = c.make_message_start.new.out.items in
    let text = message_text c.args.text.now c.args.args.now in
    let s : TextSpan = record { start = c.len-start.result; end = c.len-end.result } in
    let all = c.in_ok-extend_from_slice.ensures.items ∙ ap (λ (l : List ℕ). l ++ 10 ∷ []) c.in_ok-put_message.ensures.bytes in
    let from : c.len-start.result ≡ length bytes = omega (arith, c.len-start.ensures, c.make_message_start.new.out.ok.0) in
    let to : c.len-end.result ≡ length (bytes ++ text) = omega (arith, c.len-end.ensures, c.put_message.new.out.ok.0, ap length c.in_ok-put_message.ensures.bytes) in
    text_put bytes text (10 ∷ []) c.extend_from_slice.new.self.items s all from to
