-- `windosprio_compile_schema` meets its contract: the call, in numbers.
use Rattle.gateway.proofs.Outcomes.{compiled}
use Rattle.gateway.proofs.windosprio_compile_schema.Goals as goal

pub returns : goal.returns
returns c = compiled c.compile_schema-a.ensures c.schema_number.ensures c.schema_rows.ensures c.schema_place.ensures
