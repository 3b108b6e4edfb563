mod HashRows
