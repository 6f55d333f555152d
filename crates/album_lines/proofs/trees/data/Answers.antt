use Rattle.std.proofs.Common.{◌≡◌, Some, Err, sym, ap, ◌∙◌}
use Rattle.json.specs.Json.{value}
use Rattle.json.specs.Lex.{tokens}
use Rattle.json.specs.Value.{value_view}
use Rattle.serde_json.specs.Read.{max_depth}
use Rattle.album_lines.proofs.LineValues.{data_refused, data_read, none_read, more_read, one_read, some_left, none_left}
use Rattle.album_lines.proofs.trees.data.Goals as goal

-- the bytes are no text
pub returns-in_default : goal.returns-in_default
returns-in_default c = λ _. data_refused c.args.bytes.now (λ utf8. absurd (c.in_default.ensures.cases.0 utf8))

-- no value begins the text
pub returns-in-Err-Invalid : goal.returns-in-Err-Invalid
returns-in-Err-Invalid c =
    let all : c.in_ok-reader.reader ≡ tokens c.args.bytes.now =
    c.in_ok-reader.ensures.ok ∙ ap tokens c.in-Ok.ensures.cases.0 in
    let none = c.read.ensures.invalid (c.in-Err-Invalid.is ∙ ap Err c.in-Err-Invalid.field-0-is) in
    λ _. data_refused c.args.bytes.now (λ _. none_read c.args.bytes.now (ap (value max_depth) (sym all) ∙ none))

-- more follows the value
pub returns-then-is_some : goal.returns-then-is_some
returns-then-is_some c =
    let all : c.in_ok-reader.reader ≡ tokens c.args.bytes.now =
    c.in_ok-reader.ensures.ok ∙ ap tokens c.in-Ok.ensures.cases.0 in
    let is = ap (value max_depth) (sym all) ∙ c.in-Ok-read.ensures.ok in
    let more = some_left _ _ _ c.next.ensures.value (sym c.is_some.ensures ∙ c.if-is_some.true) in
    λ _. data_refused c.args.bytes.now (λ _. more_read c.args.bytes.now (value_view c.in-Ok-read.value) _ is more)

-- a number is out of range
pub returns-then-not-is_in_range : goal.returns-then-not-is_in_range
returns-then-not-is_in_range c =
    let all : c.in_ok-reader.reader ≡ tokens c.args.bytes.now =
    c.in_ok-reader.ensures.ok ∙ ap tokens c.in-Ok.ensures.cases.0 in
    let is = ap (value max_depth) (sym all) ∙ c.in-Ok-read.ensures.ok in
    let over = none_left _ _ _ c.next.ensures.value (sym c.is_some.ensures ∙ c.if-is_some.false) in
    let one = one_read c.args.bytes.now (value_view c.in-Ok-read.value) (is ∙ ap (λ rest. Some (value_view c.in-Ok-read.value, rest)) over) in
    λ _. data_refused c.args.bytes.now (λ _. rw (← c.is_in_range.ensures, c.if-not-is_in_range.true) at one)

pub returns : goal.returns
returns c =
    let all : c.in_ok-reader.reader ≡ tokens c.args.bytes.now =
    c.in_ok-reader.ensures.ok ∙ ap tokens c.in-Ok.ensures.cases.0 in
    let is = ap (value max_depth) (sym all) ∙ c.in-Ok-read.ensures.ok in
    let over = none_left _ _ _ c.next.ensures.value (sym c.is_some.ensures ∙ c.if-is_some.false) in
    let one = one_read c.args.bytes.now (value_view c.in-Ok-read.value) (is ∙ ap (λ rest. Some (value_view c.in-Ok-read.value, rest)) over) in
    data_read c.args.bytes.now _ c.in-Ok.ensures.cases.1 (rw (← c.is_in_range.ensures, c.if-not-is_in_range.false) at one)
