use borrow.Author.Rules.{rules}
use Rattle.basic.proofs.Elements.{stop_inside}
use Rattle.pattern.proofs.Loading.{load_empty, load_start, load_end, load_lost, load_many, load_room, load_starred, load_once, load_less}
use mathlib.Core.Path.{refl}
use native.Mathlib.Nat.{le_refl, le-add_right}
use native.Mathlib.Omega.{arith}
use Rattle.pattern.proofs.edition1.load.Goals as goal

pub returns-then-s-eq0 : goal.returns-then-s-eq0
returns-then-s-eq0 c = load_empty _ _ _ _ _ c.if-s-eq0.true refl (search rules) (search rules)

pub loop-i-init : goal.loop-i-init
loop-i-init c = search load_start

pub returns-then-at-eq60 : goal.returns-then-at-eq60
returns-then-at-eq60 c = search load_many

pub lay_atom-requires : goal.lay_atom-requires
lay_atom-requires c =
    let l = c.loop-i.invariant in
    (stop_inside c.args.s.now _ _ c.stop_at-stop.ensures c.loop-i-test.true, load_room _ l.low c.if-at-eq60.false, l.room_sets)

pub returns-in_default : goal.returns-in_default
returns-in_default c = load_lost _ _ _ _ c.requires.0 c.requires.1 _ _ _ _ _ c.loop-i.invariant _ c.stop_at-stop.ensures c.loop-i-test.true _ c.in_default.ensures _ refl

pub bounds-before-at : goal.bounds-before-at
bounds-before-at c = search load_room

pub overflow_add-i : goal.overflow_add-i
overflow_add-i c = omega (arith, c.in-Some.ensures.piece.inside)

pub loop-i-smaller-then-star_at : goal.loop-i-smaller-then-star_at
loop-i-smaller-then-star_at c =
    let p = c.in-Some.ensures.piece in
    load_less _ _ _ _ p.forward (le-add_right _ _) p.inside

pub loop-i-preserved-then-star_at : goal.loop-i-preserved-then-star_at
loop-i-preserved-then-star_at c =
    load_starred _ _ _ _ c.requires.0 c.requires.1 _ _ _ _ _ c.loop-i.invariant _ c.stop_at-stop.ensures c.loop-i-test.true _ _ c.in-Some.ensures
    c.if-at-eq60.false _ c.star_at.ensures _ _ c.if-star_at.true c.with-m.ensures c.before-then-star_at.ensures

pub bounds-before-at-else-star_at : goal.bounds-before-at-else-star_at
bounds-before-at-else-star_at c = search load_room

pub loop-i-smaller : goal.loop-i-smaller
loop-i-smaller c =
    let p = c.in-Some.ensures.piece in
    load_less _ _ _ _ p.forward (le_refl _) p.inside

pub loop-i-preserved : goal.loop-i-preserved
loop-i-preserved c =
    load_once _ _ _ _ c.requires.0 c.requires.1 _ _ _ _ _ c.loop-i.invariant _ c.stop_at-stop.ensures c.loop-i-test.true _ _ c.in-Some.ensures
    c.if-at-eq60.false _ c.star_at.ensures _ _ c.if-star_at.false c.with-m-else-star_at.ensures c.before-else-star_at.ensures

pub returns : goal.returns
returns c = search load_end
