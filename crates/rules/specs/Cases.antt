-- Reference, Cases: the P table, P1 to P12.
-- A case is a schema with the words lent for its rows and its answer, then messages to its table, each with the words lent and its answer.
use Rattle.std.specs.Prelude.{ℕ, List, [], ◌∷◌}
use Prim.Native.String.{String}

-- an answer: its numbers, the rows or records, and how many zeros after them
pub record Answer : Type 0 where
  pub numbers : List ℕ
  pub words : List (List ℕ)
  pub zeros : ℕ

pub record Call : Type 0 where
  pub name : String
  pub message : String
  pub lent : ℕ
  pub answer : Answer

pub record Case : Type 0 where
  pub name : String
  pub schema : String
  pub lent : ℕ
  pub answer : Answer
  pub calls : List Call

abbrev pub cases : List Case
cases =
    record {
      name = "P1 to P8";
      schema = "{'command':'stop-lot','data':{'lot':'str'}}";
      lent = 27;
      answer = record { numbers = 0 ∷ 3 ∷ 0 ∷ []; words = (9 ∷ 12 ∷ 8 ∷ 2 ∷ 0 ∷ 0 ∷ 0 ∷ 0 ∷ []) ∷ (3 ∷ 0 ∷ 0 ∷ 1 ∷ 0 ∷ 0 ∷ 0 ∷ 0 ∷ []) ∷ (4 ∷ 31 ∷ 3 ∷ 1 ∷ 0 ∷ 0 ∷ 0 ∷ 0 ∷ []) ∷ []; zeros = 3 };
      calls =
          record { name = "P1"; message = "{\"execute\":\"stop-lot\",\"arguments\":{\"lot\":\"007\"}}"; lent = 9; answer = record { numbers = 0 ∷ 0 ∷ 2 ∷ 0 ∷ []; words = (34 ∷ 47 ∷ 17 ∷ 0 ∷ []) ∷ (41 ∷ 46 ∷ 1 ∷ 0 ∷ []) ∷ []; zeros = 1 } }
          ∷ record { name = "P2"; message = "{\"execute\":\"stop-lot\",\"arguments\":{\"lot\":7}}"; lent = 8; answer = record { numbers = 29 ∷ 0 ∷ 0 ∷ 34 ∷ []; words = []; zeros = 8 } }
          ∷ record { name = "P3"; message = "{\"execute\":\"stop-lot\",\"arguments\":{\"lot\":007}}"; lent = 8; answer = record { numbers = 23 ∷ 0 ∷ 0 ∷ 42 ∷ []; words = []; zeros = 8 } }
          ∷ record { name = "P4"; message = "{\"execute\":\"stop-lot\"}"; lent = 8; answer = record { numbers = 29 ∷ 0 ∷ 0 ∷ 0 ∷ []; words = []; zeros = 8 } }
          ∷ record { name = "P5"; message = "{\"execute\":\"stop-lot\",\"arguments\":{\"lot\":\"007\",\"lot\":\"007\"}}"; lent = 8; answer = record { numbers = 25 ∷ 0 ∷ 0 ∷ 47 ∷ []; words = []; zeros = 8 } }
          ∷ record { name = "P6"; message = "{\"exec-oob\":\"stop-lot\",\"arguments\":{\"lot\":\"007\"}}"; lent = 8; answer = record { numbers = 28 ∷ 0 ∷ 0 ∷ 0 ∷ []; words = []; zeros = 8 } }
          ∷ record { name = "P7"; message = ""; lent = 8; answer = record { numbers = 23 ∷ 0 ∷ 0 ∷ 0 ∷ []; words = []; zeros = 8 } }
          ∷ record { name = "P7"; message = "5"; lent = 8; answer = record { numbers = 26 ∷ 0 ∷ 0 ∷ 0 ∷ []; words = []; zeros = 8 } }
          ∷ record { name = "P8"; message = "{\"execute\":\"stop-lot\",\"arguments\":{\"lot\":\"007\"}}"; lent = 4; answer = record { numbers = 30 ∷ 0 ∷ 0 ∷ 34 ∷ []; words = []; zeros = 4 } }
          ∷ [];
    }
    ∷ record {
      name = "P9";
      schema = "{'command':'plant','data':{'lot':'int8'}}";
      lent = 24;
      answer = record { numbers = 0 ∷ 3 ∷ 0 ∷ []; words = (9 ∷ 12 ∷ 5 ∷ 2 ∷ 0 ∷ 0 ∷ 0 ∷ 0 ∷ []) ∷ (3 ∷ 0 ∷ 0 ∷ 1 ∷ 0 ∷ 0 ∷ 0 ∷ 0 ∷ []) ∷ (4 ∷ 28 ∷ 3 ∷ 4 ∷ 0 ∷ 0 ∷ 0 ∷ 0 ∷ []) ∷ []; zeros = 0 };
      calls =
          record { name = "P9"; message = "{\"execute\":\"plant\",\"arguments\":{\"lot\":-128}}"; lent = 8; answer = record { numbers = 0 ∷ 0 ∷ 2 ∷ 0 ∷ []; words = (31 ∷ 43 ∷ 17 ∷ 0 ∷ []) ∷ (38 ∷ 42 ∷ 4 ∷ 0 ∷ []) ∷ []; zeros = 0 } }
          ∷ record { name = "P9"; message = "{\"execute\":\"plant\",\"arguments\":{\"lot\":127}}"; lent = 8; answer = record { numbers = 0 ∷ 0 ∷ 2 ∷ 0 ∷ []; words = (31 ∷ 42 ∷ 17 ∷ 0 ∷ []) ∷ (38 ∷ 41 ∷ 4 ∷ 0 ∷ []) ∷ []; zeros = 0 } }
          ∷ record { name = "P9"; message = "{\"execute\":\"plant\",\"arguments\":{\"lot\":-129}}"; lent = 8; answer = record { numbers = 29 ∷ 0 ∷ 0 ∷ 31 ∷ []; words = []; zeros = 8 } }
          ∷ record { name = "P9"; message = "{\"execute\":\"plant\",\"arguments\":{\"lot\":128}}"; lent = 8; answer = record { numbers = 29 ∷ 0 ∷ 0 ∷ 31 ∷ []; words = []; zeros = 8 } }
          ∷ [];
    }
    ∷ record {
      name = "P10";
      schema = "{'command':'plant','data':{'lot':'uint64'}}";
      lent = 24;
      answer = record { numbers = 0 ∷ 3 ∷ 0 ∷ []; words = (9 ∷ 12 ∷ 5 ∷ 2 ∷ 0 ∷ 0 ∷ 0 ∷ 0 ∷ []) ∷ (3 ∷ 0 ∷ 0 ∷ 1 ∷ 0 ∷ 0 ∷ 0 ∷ 0 ∷ []) ∷ (4 ∷ 28 ∷ 3 ∷ 11 ∷ 0 ∷ 0 ∷ 0 ∷ 0 ∷ []) ∷ []; zeros = 0 };
      calls =
          record { name = "P10"; message = "{\"execute\":\"plant\",\"arguments\":{\"lot\":18446744073709551615}}"; lent = 8; answer = record { numbers = 0 ∷ 0 ∷ 2 ∷ 0 ∷ []; words = (31 ∷ 59 ∷ 17 ∷ 0 ∷ []) ∷ (38 ∷ 58 ∷ 11 ∷ 0 ∷ []) ∷ []; zeros = 0 } }
          ∷ record { name = "P10"; message = "{\"execute\":\"plant\",\"arguments\":{\"lot\":18446744073709551616}}"; lent = 8; answer = record { numbers = 29 ∷ 0 ∷ 0 ∷ 31 ∷ []; words = []; zeros = 8 } }
          ∷ record { name = "P10"; message = "{\"execute\":\"plant\",\"arguments\":{\"lot\":-1}}"; lent = 8; answer = record { numbers = 29 ∷ 0 ∷ 0 ∷ 31 ∷ []; words = []; zeros = 8 } }
          ∷ [];
    }
    ∷ record {
      name = "P11";
      schema = "{'alternate':'lot','data':{'whole':'int','part':'number'}}";
      lent = 24;
      answer = record { numbers = 10 ∷ 0 ∷ 0 ∷ []; words = []; zeros = 24 };
      calls = [];
    }
    ∷ record {
      name = "P11";
      schema = "{'struct':'label','data':{}} {'alternate':'lot','data':{'tag':'label','name':'str'}}";
      lent = 32;
      answer = record { numbers = 0 ∷ 4 ∷ 0 ∷ []; words = (3 ∷ 11 ∷ 5 ∷ 0 ∷ 0 ∷ 0 ∷ 0 ∷ 0 ∷ []) ∷ (7 ∷ 43 ∷ 3 ∷ 2 ∷ 0 ∷ 0 ∷ 0 ∷ 0 ∷ []) ∷ (8 ∷ 57 ∷ 3 ∷ 16 ∷ 0 ∷ 0 ∷ 0 ∷ 0 ∷ []) ∷ (8 ∷ 71 ∷ 4 ∷ 1 ∷ 0 ∷ 0 ∷ 0 ∷ 0 ∷ []) ∷ []; zeros = 0 };
      calls = [];
    }
    ∷ record {
      name = "P12";
      schema = "{'struct':'lot','data':{},'base':'lot'}";
      lent = 8;
      answer = record { numbers = 8 ∷ 0 ∷ 0 ∷ []; words = []; zeros = 8 };
      calls = [];
    }
    ∷ []
