use Rattle.plain.proofs.Searching.{plain_refused, plain_long, plain_found, start_behind, start_front}
use Rattle.plain.proofs.plain.Goals as goal

pub returns-then-not-is_pattern : goal.returns-then-not-is_pattern
returns-then-not-is_pattern c =
    record { answer = plain_refused c.args.p.now c.args.text.now _ c.is_pattern.ensures c.if-not-is_pattern.true _ c.tell.ensures }

pub returns-then-text-gt256 : goal.returns-then-text-gt256
returns-then-text-gt256 c =
    record { answer = plain_long c.args.p.now c.args.text.now _ c.is_pattern.ensures c.if-not-is_pattern.false c.if-text-gt256.true _ c.tell-then-text-gt256.ensures }

pub returns-then-peek_at-eq94 : goal.returns-then-peek_at-eq94
returns-then-peek_at-eq94 c =
    record {
      answer = plain_found c.args.p.now c.args.text.now _ c.is_pattern.ensures c.if-not-is_pattern.false c.if-text-gt256.false
          _ (start_behind c.args.p.now _ c.peek_at.ensures c.if-peek_at-eq94.true) _ c.search.ensures;
    }

pub returns : goal.returns
returns c =
    record {
      answer = plain_found c.args.p.now c.args.text.now _ c.is_pattern.ensures c.if-not-is_pattern.false c.if-text-gt256.false
          _ (start_front c.args.p.now _ c.peek_at.ensures c.if-peek_at-eq94.false) _ c.search-2.ensures;
    }
