-- `show` meets its contract. The loop's invariant: the first i frames stand in the text (`Shown`), until there is none left. Assumes nothing.
use Rattle.desk_dump.proofs.Shows.{fits, feed_inside, rest_put, of_the_rest, none_shown, one_more, sixteen, ended, refused_at_once}
use Prim.Native.Nat.{◌-◌}
use borrow.Author.Rules.{rules}
use native.Mathlib.Omega.{arith}
use Rattle.desk_dump.proofs.show.Goals as goal

pub loop-i-init : goal.loop-i-init
loop-i-init c = let p = c.requires in none_shown _ _ p.0 p.1

pub overflow_add-text : goal.overflow_add-text
overflow_add-text c =
    let at = c.loop-i in
    search (rules, fits _ _ at.invariant (of_the_rest _ at.i at.text at.at c.in-Ok.is c.frame.ensures))

pub bounds-text-at : goal.bounds-text-at
bounds-text-at c =
    let at = c.loop-i in
    feed_inside _ _ at.invariant (of_the_rest _ at.i at.text at.at c.in-Ok.is c.frame.ensures) _ (rest_put at.text at.at c.frame.new.line)

pub overflow_add-at : goal.overflow_add-at
overflow_add-at c =
    let at = c.loop-i in
    search (rules, fits _ _ at.invariant (of_the_rest _ at.i at.text at.at c.in-Ok.is c.frame.ensures))

pub overflow_add-at-in-Ok : goal.overflow_add-at-in-Ok
overflow_add-at-in-Ok c =
    let at = c.loop-i in
    search (rules, fits _ _ at.invariant (of_the_rest _ at.i at.text at.at c.in-Ok.is c.frame.ensures))

pub loop-i-preserved : goal.loop-i-preserved
loop-i-preserved c =
    let at = c.loop-i in
    one_more _ _ at.invariant (of_the_rest _ at.i at.text at.at c.in-Ok.is c.frame.ensures) _ (rest_put at.text at.at c.frame.new.line)

pub returns : goal.returns
returns c = sixteen _ _ c.loop-i.invariant (omega arith)

pub returns-in-NoSuchNode : goal.returns-in-NoSuchNode
returns-in-NoSuchNode c =
    let at = c.loop-i in
    ended _ _ at.invariant c.in-Err.why (of_the_rest _ at.i at.text at.at c.in-Err.is c.frame.ensures) _ (rest_put at.text at.at c.frame.new.line)
    c.in-NoSuchNode.is

pub returns-in_default : goal.returns-in_default
returns-in_default c =
    let at = c.loop-i in
    refused_at_once _ _ at.invariant c.in-Err.why (of_the_rest _ at.i at.text at.at c.in-Err.is c.frame.ensures) _ _ _
    (rest_put at.text at.at c.frame.new.line) c.in_default.not-NoSuchNode c.say_refused.ensures.end c.say_refused.ensures.written
