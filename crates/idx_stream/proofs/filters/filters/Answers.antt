use Rattle.idx_stream.proofs.FoundFilters.{filters_found}
use Rattle.idx_stream.proofs.filters.filters.Goals as goal

pub returns : goal.returns
returns c =
    rw (c.from_nodes.ensures, c.from_vec.ensures, c.in_ok-nodes.ensures, c.as_slice.ensures, c.in_ok-keys.ensures.keys, c.stream_key.ensures)
    (filters_found c.args.rows.now.list c.args.stream c.len-all.ensures.order)
