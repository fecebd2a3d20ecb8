pub mod SymbolList
